-- The names of a bundle: bytes of its source, numbered in the order of the scenario.
use Rattle.std.specs.Prelude.{◌≡◌, ◌<◌, ℕ, Bool, List, [], length, map, Option, Some, is_some, position, slice_index_or, unwrap_or, bytes_eq}
use Rattle.roster_bundle.specs.declared.bundle.Bundle.{Bundle}
use Rattle.roster_bundle.specs.declared.bundle.Contract.{Contract}
use Rattle.roster_bundle.specs.declared.bundle.Nurse.{Nurse}
use Rattle.roster_bundle.specs.declared.bundle.ShiftType.{ShiftType}
use Rattle.roster_bundle.specs.declared.token.Token.{Token}
use Rattle.roster_bundle.specs.Token.{text_of}
use Rattle.roster_instance.specs.Tables.{is_at}

-- two tokens have the same text; below, a token has this text
abbrev pub same_name : List ℕ → Token → Token → Bool
same_name source t u = bytes_eq (text_of source t) (text_of source u)

abbrev pub reads : List ℕ → List ℕ → Token → Bool
reads source text t = bytes_eq (text_of source t) text

-- ---- the names of the scenario

-- the names of tokens, in their order; the number of a name is its index, from 0
abbrev pub names_of : List ℕ → List Token → List (List ℕ)
names_of source tokens = map (text_of source) tokens

abbrev pub skill_names : List ℕ → Bundle → List (List ℕ)
skill_names source b = names_of source b.scenario.skills.items

abbrev pub shift_names : List ℕ → Bundle → List (List ℕ)
shift_names source b = names_of source (map (λ (s : ShiftType). s.name) b.scenario.shifts.items)

abbrev pub contract_names : List ℕ → Bundle → List (List ℕ)
contract_names source b = names_of source (map (λ (c : Contract). c.name) b.scenario.contracts.items)

abbrev pub nurse_names : List ℕ → Bundle → List (List ℕ)
nurse_names source b = names_of source (map (λ (n : Nurse). n.name) b.scenario.nurses.items)

-- ---- their numbers

-- the number of the first of the names that is equal to this text
abbrev pub find_name : List (List ℕ) → List ℕ → Option ℕ
find_name names text = position (bytes_eq text) names

-- the names are different: the number of each is its index
abbrev pub HaveTheirPlaces : List (List ℕ) → Type 0
HaveTheirPlaces names =
    (number : ℕ) → number < length names → find_name names (slice_index_or names number []) ≡ Some number

-- the number of a token's name, if it is one of these
abbrev pub found : List ℕ → List (List ℕ) → Token → Option ℕ
found source names t = find_name names (text_of source t)

-- a token's name has a number
abbrev pub is_known : List ℕ → List (List ℕ) → Token → Bool
is_known source names t = is_some (found source names t)

-- the number of a name, 0 if it is unknown
abbrev pub name_number : List ℕ → List (List ℕ) → Token → ℕ
name_number source names t = unwrap_or (found source names t) 0

-- the token's name has this number
abbrev pub has_number : List ℕ → List (List ℕ) → ℕ → Token → Bool
has_number source names n t = is_at n (found source names t)
