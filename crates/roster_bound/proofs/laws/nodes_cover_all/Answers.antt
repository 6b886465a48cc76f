use Rattle.std.proofs.Common.{refl}
use Rattle.roster_bound.proofs.NodeLaws.{in_both, in_one}
use Rattle.roster_bound.proofs.laws.nodes_cover_all.Goals as goal

pub returns-clause-one_of_two : goal.returns-clause-one_of_two
returns-clause-one_of_two c = in_one

pub returns-clause-both : goal.returns-clause-both
returns-clause-both c case from given node x bound below = in_both case from given node x bound below.0 below.1

pub returns-clause-all : goal.returns-clause-all
returns-clause-all c case from given bound below r fits keeps stays = below r fits keeps stays refl
