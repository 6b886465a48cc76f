use Rattle.std.proofs.Common.{◌∙◌, codes}
use Rattle.clap.specs.Words.{found_of}
use Rattle.clap.proofs.WalkLemmas.{one_text-rows}
use Rattle.roster_request.proofs.words.json_of.Goals as goal

pub returns : goal.returns
returns c =
    let same = one_text-rows (found_of c.args.given.now) (codes "json") in
    record {
      none = λ e. c.get_flag.ensures.none (same ∙ e);
      yes = λ e. c.get_flag.ensures.value (same ∙ e);
      no = λ e. c.get_flag.ensures.other (same ∙ e);
    }
