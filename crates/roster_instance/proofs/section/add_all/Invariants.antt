use Rattle.std.proofs.Common.{◌≡◌, [], take}
use Rattle.roster_instance.specs.Faults.{each}
use Rattle.roster_instance.proofs.section.add_all.Given as goal

abbrev pub invariant-loop-item : goal.invariant-loop-item
invariant-loop-item g l = record {
  same : g.S.Section.about l.section ≡ g.S.Section.about l.fn.section;
  built : g.S.Section.built l.section (take l.item-index l.items);
  none : each (g.S.Section.faults (g.S.Section.about l.fn.section)) (take l.item-index l.items) ≡ [];
}
