use Rattle.std.proofs.Common.{inl, inr}
use Rattle.roster_request.proofs.words.command_in.Goals as goal

pub given_text-requires : goal.given_text-requires
given_text-requires c = c.requires.nurse (inl c.in-best.is)

pub from_of-requires : goal.from_of-requires
from_of-requires c = c.requires.from (inl c.in-best.is)

pub rounds_of-requires : goal.rounds_of-requires
rounds_of-requires c = c.requires.rounds (inl c.in-improve.is)

pub from_of-requires-in-improve : goal.from_of-requires-in-improve
from_of-requires-in-improve c = c.requires.from (inr (inr (inr (inr (inl c.in-improve.is)))))

pub rounds_of-requires-in-bound : goal.rounds_of-requires-in-bound
rounds_of-requires-in-bound c = c.requires.rounds (inr (inl c.in-bound.is))

pub nodes_of-requires : goal.nodes_of-requires
nodes_of-requires c = c.requires.nodes (inl c.in-bound.is)

pub from_of-requires-in-bound : goal.from_of-requires-in-bound
from_of-requires-in-bound c = c.requires.from (inr (inr (inr (inr (inr (inl c.in-bound.is))))))

pub searches_of-requires : goal.searches_of-requires
searches_of-requires c = c.requires.searches (inl c.in-polish.is)

pub seconds_of-requires : goal.seconds_of-requires
seconds_of-requires c = c.requires.seconds (inl c.in-bound.is)

pub seconds_of-requires-in-polish : goal.seconds_of-requires-in-polish
seconds_of-requires-in-polish c = c.requires.seconds (inr (inl c.in-polish.is))

pub seconds_of-requires-in-plan : goal.seconds_of-requires-in-plan
seconds_of-requires-in-plan c = c.requires.seconds (inr (inr (inl c.in-plan.is)))

pub seed_of-requires : goal.seed_of-requires
seed_of-requires c = c.requires.seed (inl c.in-polish.is)

pub from_of-requires-in-polish : goal.from_of-requires-in-polish
from_of-requires-in-polish c = c.requires.from (inr (inl c.in-polish.is))

pub searches_of-requires-in-plan : goal.searches_of-requires-in-plan
searches_of-requires-in-plan c = c.requires.searches (inr (inl c.in-plan.is))

pub seed_of-requires-in-plan : goal.seed_of-requires-in-plan
seed_of-requires-in-plan c = c.requires.seed (inr (inl c.in-plan.is))

pub from_of-requires-in-plan : goal.from_of-requires-in-plan
from_of-requires-in-plan c = c.requires.from (inr (inr (inl c.in-plan.is)))

pub keep_of-requires : goal.keep_of-requires
keep_of-requires c = c.requires.keep (inl c.in-best.is)

pub keep_of-requires-in-improve : goal.keep_of-requires-in-improve
keep_of-requires-in-improve c = c.requires.keep (inr (inr (inr (inl c.in-improve.is))))

pub keep_of-requires-in-bound : goal.keep_of-requires-in-bound
keep_of-requires-in-bound c = c.requires.keep (inr (inr (inr (inr (inl c.in-bound.is)))))

pub keep_of-requires-in-polish : goal.keep_of-requires-in-polish
keep_of-requires-in-polish c = c.requires.keep (inr (inl c.in-polish.is))

pub keep_of-requires-in-plan : goal.keep_of-requires-in-plan
keep_of-requires-in-plan c = c.requires.keep (inr (inr (inl c.in-plan.is)))

pub given_text-requires-in-who : goal.given_text-requires-in-who
given_text-requires-in-who c = c.requires.day (inl c.in-who.is)

pub given_text-requires-in-who-2 : goal.given_text-requires-in-who-2
given_text-requires-in-who-2 c = c.requires.shift (inl c.in-who.is)

pub from_of-requires-in-who : goal.from_of-requires-in-who
from_of-requires-in-who c = c.requires.from (inr (inr (inr (inl c.in-who.is))))
