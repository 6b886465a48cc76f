use Rattle.std.proofs.Common.{◌∙◌, ◌+◌, ◌<◌, ap, arith, drop, length, refl, subst, sym}
use Rattle.std.proofs.lemmas.List.{drop-set, length-drop}
use Rattle.roster_input.proofs.JoinedLemmas.{first_left}
use Rattle.roster_input.proofs.readers.Joined.read_first.Goals as goal

pub returns-clause-called : goal.returns-clause-called
returns-clause-called g c =
    let readers = c.self.inside.readers.items in
    let done = c.self.inside.done in
    let some : 0 < length (drop done readers) = subst (λ l. 0 < length l.readers) (sym c.self.view_is) c.requires.left in
    let within : done < length readers = omega (arith, some, length-drop done readers) in
    record {
      first = c.index_mut.result.now;
      first_left = c.read-result.new.arg2;
      rest = drop (done + 1) readers;
      before = sym (ap (λ l. l.readers) c.self.view_is) ∙ first_left readers done c.index_mut.result.now within c.index_mut.ensures.value;
      after = drop-set readers done c.read-result.new.arg2 within;
      called = record {
        device = _;
        buffer = _;
        device_left = _;
        buffer_left = _;
        shows = (refl, refl);
        met = c.read-result.ensures;
        leaves = (refl, refl);
      };
    }
