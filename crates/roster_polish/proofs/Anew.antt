-- A descent that ended settled, whatever is searched after it.
use Rattle.std.proofs.Common.{ℕ, true}
use Rattle.std.proofs.lemmas.Bool.{true≢false}
use Rattle.roster_instance.specs.Meaning.{Meaning}
use Rattle.roster_instance.specs.Rosters.{Rows}
use Rattle.roster_polish.specs.declared.searches.Searches.{Searches}
use Rattle.roster_polish.specs.Descents.{Descends, IsFadedAnew}

settled_later : {K : Type 0} (c : Meaning) (from aim : ℕ) (left later : Searches K) (before after : Rows) → Descends c from aim left before after true → Descends c from aim later before after true
settled_later c from aim left later before after d = record { nurses = d.nurses; steps = d.steps; is_settled = d.is_settled; given_up = λ e. absurd (true≢false e) }

-- fewer searches may be left after a fade that ended settled
pub faded_later : {K : Type 0} (c : Meaning) (from : ℕ) (left later : Searches K) (given faded held : Rows) → IsFadedAnew c from left given faded held true → IsFadedAnew c from later given faded held true
faded_later c from left later given faded held f = record { frozen = f.frozen; keeps = f.keeps; descends = λ keeps. settled_later c from 18446744073709551615 left later faded held (f.descends keeps) }
