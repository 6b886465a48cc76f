-- A name of the scenario, by its number.
use Rattle.std.proofs.Common.{◌≡◌, ◌∙◌, ◌∷◌, [], ◌<◌, ℕ, List, ap, arith, get_or, length, map, nat_lt, sym, true, zero, suc}
use Rattle.std.proofs.lemmas.Bool.{ltb-true}
use Rattle.roster_bundle.specs.Token.{text_of}
use Rattle.roster_bundle.specs.declared.token.Token.{Token}
use Rattle.roster_reports.specs.Lines.{Text}

-- the name of an item of the scenario, by its number
name_at : {A : Type 0} (source : Text) (name : A → Token) (items : List A) (n : ℕ) (item : A) → item ≡ get_or items n item → n < length items
    → text_of source (name item) ≡ get_or (map (text_of source) (map name items)) n []
name_at source name [] n item is within = absurd (omega (arith, within))
name_at source name (x ∷ xs) zero item is within = ap (λ y. text_of source (name y)) is
name_at source name (x ∷ xs) (suc n) item is within = name_at source name xs n item is (omega (arith, within))

pub name_found : {A : Type 0} (source : Text) (name : A → Token) (items shown : List A) (n : ℕ) (item : A) → shown ≡ items
    → true ≡ nat_lt n (length shown) → item ≡ get_or shown n item → text_of source (name item) ≡ get_or (map (text_of source) (map name items)) n []
name_found source name items shown n item shows found is =
    name_at source name items n item (is ∙ ap (λ xs. get_or xs n item) shows)
    (ltb-true n (length items) (sym (found ∙ ap (λ xs. nat_lt n (length xs)) shows)))
