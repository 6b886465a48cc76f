use Rattle.std.proofs.Common.{[], ◌∷◌, codes, refl}
use Rattle.clap.specs.Words.{App, with_subcommand}
use Rattle.roster_request.specs.CommandLine.{from_rule, keep_rule, kicks_rule, nodes_rule, nurse_rule, out_rule, own_command_of, plan, rounds_rule, searches_rule, seconds_rule, seed_rule, who}
use Rattle.roster_request.proofs.CommandLineLemmas.{adds_known, made_by_both}
use Rattle.roster_request.proofs.program.with_search_commands.Goals as goal

abbrev best : App
best = own_command_of (nurse_rule ∷ out_rule ∷ from_rule ∷ keep_rule ∷ []) (codes "best")

abbrev improve : App
improve = own_command_of (rounds_rule ∷ out_rule ∷ from_rule ∷ keep_rule ∷ []) (codes "improve")

abbrev bound : App
bound = own_command_of (rounds_rule ∷ nodes_rule ∷ seconds_rule ∷ from_rule ∷ keep_rule ∷ []) (codes "bound")

abbrev polish : App
polish = own_command_of (searches_rule ∷ seconds_rule ∷ seed_rule ∷ kicks_rule ∷ out_rule ∷ from_rule ∷ keep_rule ∷ []) (codes "polish")

-- a program with this command too
abbrev step : App → App → App
step a p = with_subcommand p a.top

pub returns : goal.returns
returns c =
    let program = c.args.program in
    let best_added = adds_known best program c.best_command.result c.with_command-with_best.result refl c.best_command.ensures c.with_command-with_best.ensures in
    let improve_added =
    adds_known improve c.with_command-with_best.result c.improve_command.result c.with_command-with_improve.result refl c.improve_command.ensures c.with_command-with_improve.ensures in
    let bound_added =
    adds_known bound c.with_command-with_improve.result c.bound_command.result c.with_command-with_bound.result refl c.bound_command.ensures c.with_command-with_bound.ensures in
    let polish_added = adds_known polish c.with_command-with_bound.result c.polish_command.result c.with_command-with_polish.result refl c.polish_command.ensures c.with_command-with_polish.ensures in
    let plan_added = adds_known plan c.with_command-with_polish.result c.plan_command.result c.with_command-with_plan.result refl c.plan_command.ensures c.with_command-with_plan.ensures in
    let who_added = adds_known who c.with_command-with_plan.result c.who_command.result c.with_command.result refl c.who_command.ensures c.with_command.ensures in
    let with_improve = made_by_both (step best) (step improve) program c.with_command-with_best.result c.with_command-with_improve.result best_added improve_added in
    let with_bound =
    made_by_both (λ p. step improve (step best p)) (step bound) program c.with_command-with_improve.result c.with_command-with_bound.result with_improve bound_added in
    let with_polish =
    made_by_both (λ p. step bound (step improve (step best p))) (step polish) program c.with_command-with_bound.result c.with_command-with_polish.result with_bound polish_added in
    let with_plan =
    made_by_both (λ p. step polish (step bound (step improve (step best p)))) (step plan) program c.with_command-with_polish.result c.with_command-with_plan.result with_polish plan_added in
    made_by_both (λ p. step plan (step polish (step bound (step improve (step best p))))) (step who) program c.with_command-with_plan.result c.with_command.result with_plan who_added
