use Rattle.std.proofs.Common.{◌≡◌, length, sym}
use Rattle.std.proofs.lemmas.List.{length-map}
use Rattle.roster_instance.proofs.scenario.nurses_of.Goals as goal

-- there are as many names as lines, and the number of lines was checked
pub returns-clause-few : goal.returns-clause-few
returns-clause-few c =
    let as_counted : length c.add_all.new.section.names ≡ c.len-count.result = rw c.in_ok-add_all.ensures.built.0 (simp length-map (rw c.as_slice.ensures (sym c.len-count.ensures))) in
    rw as_counted c.in_ok-check_count.ensures.within
