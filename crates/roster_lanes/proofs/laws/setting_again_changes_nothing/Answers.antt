use Rattle.std.proofs.Common.{◌∙◌, sym}
use Rattle.roster_lanes.proofs.laws.setting_again_changes_nothing.Goals as goal

pub returns : goal.returns
returns c first end more most others new again once twice i from within = twice i from within ∙ sym (once i from within)
