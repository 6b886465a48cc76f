-- Lists of patterns and the tokens that fit them, cut and put together.
use Rattle.std.proofs.Common.{◌≡◌, ◌⊎◌, inl, inr, List, [], ◌∷◌, ◌++◌, refl, ap}
use Rattle.roster_bundle.specs.Token.{Seen}
use Rattle.roster_text.specs.Grammar.{Pattern, Spelled}

pub spelled_append : (ps qs : List Pattern) (ts us : List Seen) → Spelled ps ts → Spelled qs us → Spelled (ps ++ qs) (ts ++ us)
spelled_append [] qs [] us s h = h
spelled_append (p ∷ ps) qs (t ∷ ts) us s h = (s.0, spelled_append ps qs ts us s.1 h)
spelled_append [] qs (t ∷ ts) us s h = absurd s
spelled_append (p ∷ ps) qs [] us s h = absurd s

-- tokens split in two: the first ones fit one list of patterns, the rest fit the other
pub record Divided (ps qs : List Pattern) (ts : List Seen) : Type 0 where
  pub front : List Seen
  pub back : List Seen
  pub split : ts ≡ front ++ back
  pub first : Spelled ps front
  pub second : Spelled qs back

pub divided : (ps qs : List Pattern) (ts : List Seen) → Spelled (ps ++ qs) ts → Divided ps qs ts
divided [] qs ts s = record { front = []; back = ts; split = refl; first = tt; second = s }
divided (p ∷ ps) qs [] s = absurd s
divided (p ∷ ps) qs (t ∷ ts) s =
    let r = divided ps qs ts s.1 in
    record { front = t ∷ r.front; back = r.back; split = ap (λ (xs : List Seen). t ∷ xs) r.split; first = (s.0, r.first); second = r.second }

-- a pattern in a list that is joined of two is in the first or in the second
pub record InFirst (ps qs done due : List Pattern) (p : Pattern) : Type 0 where
  pub rest : List Pattern
  pub position : ps ≡ done ++ p ∷ rest
  pub after : due ≡ rest ++ qs

pub record InSecond (ps qs done due : List Pattern) (p : Pattern) : Type 0 where
  pub before : List Pattern
  pub passed : done ≡ ps ++ before
  pub position : qs ≡ before ++ p ∷ due

pub cut : (ps qs done due : List Pattern) (p : Pattern) → ps ++ qs ≡ done ++ p ∷ due → InFirst ps qs done due p ⊎ InSecond ps qs done due p
cut [] qs done due p e = inr (record { before = done; passed = refl; position = e })
cut (a ∷ ps) qs [] due p e = inl (record { rest = ps; position = cc; after = cc })
cut (a ∷ ps) qs (d ∷ done) due p e =
    let head : a ≡ d = cc in
    let tail : ps ++ qs ≡ done ++ p ∷ due = cc in
    elim (cut ps qs done due p tail) [
      | inl r ↦ inl (record { rest = r.rest; position = cc (r.position); after = r.after })
      | inr r ↦ inr (record { before = r.before; passed = cc (r.passed); position = r.position })
    ]
