-- The canonical text, line by line, and the number of its lines.
use Rattle.std.proofs.Common.{◌≡◌, ℕ, ◌+◌, List, [], ◌∷◌, ◌++◌, Option, None, Some, if◌then◌else◌, length, is_some, option_map, codes, decimal, refl, sym, ap, ◌∙◌, arith, append_assoc, length-append}
use Rattle.std.specs.Option.{option_map_or}
use Rattle.std.specs.List.{flat_map, filter_map, cons_option, range_with_len}
use Rattle.std.proofs.lemmas.List.Concat.{flat_map-append}
use Rattle.std.proofs.lemmas.List.Elements.{filter_map-append}
use Rattle.roster_bundle.specs.Canonical.{Shown, assignment_on, nurse_assignments, assignments, assignment_line, heading, canonical, line_on, line_text, nurse_lines, weekday_text}
use Rattle.roster_bundle.proofs.Ranges.{range_with_len_more, flat_map-range_more}

-- a line for each item that there is
flat_map-filter_map : {X Y : Type 0} (f : Y → List ℕ) (h : X → Option Y) (xs : List X) → flat_map f (filter_map h xs) ≡ flat_map (λ x. option_map_or f (h x) []) xs
flat_map-filter_map f h [] = refl
flat_map-filter_map f h (x ∷ xs) =
    let rest = flat_map-filter_map f h xs in
    elim (h x) as (λ o. flat_map f (cons_option o (filter_map h xs)) ≡ option_map_or f o [] ++ flat_map (λ y. option_map_or f (h y) []) xs) [ None ↦ rest | Some y ↦ ap (λ l. f y ++ l) rest ]

flat_map-flat_map : {X Y : Type 0} (f : Y → List ℕ) (g : X → List Y) (xs : List X) → flat_map f (flat_map g xs) ≡ flat_map (λ x. flat_map f (g x)) xs
flat_map-flat_map f g [] = refl
flat_map-flat_map f g (x ∷ xs) = flat_map-append f (g x) (flat_map g xs) ∙ ap (λ l. flat_map f (g x) ++ l) (flat_map-flat_map f g xs)

flat_map-same : {X : Type 0} (f g : X → List ℕ) → ((x : X) → f x ≡ g x) → (xs : List X) → flat_map f xs ≡ flat_map g xs
flat_map-same f g e [] = refl
flat_map-same f g e (x ∷ xs) = ap (λ l. l ++ flat_map f xs) (e x) ∙ ap (λ l. g x ++ l) (flat_map-same f g e xs)

nurse_lines_is : (s : Shown) (n : ℕ) → flat_map assignment_line (nurse_assignments s n) ≡ nurse_lines s n
unfolding nurse_assignments nurse_lines line_on
nurse_lines_is s n = flat_map-filter_map assignment_line (assignment_on s n) (range_with_len 0 7)

pub canonical_is : (s : Shown) → canonical s ≡ heading s ++ flat_map (nurse_lines s) (range_with_len 0 s.nurses)
unfolding canonical assignments
canonical_is s =
    let lines = flat_map-flat_map assignment_line (nurse_assignments s) (range_with_len 0 s.nurses) ∙ flat_map-same _ (nurse_lines s) (nurse_lines_is s) (range_with_len 0 s.nurses) in
    ap (λ l. heading s ++ l) lines

-- the line, word by word
pub line_text_is : (nurse day shift skill : List ℕ)
    → line_text nurse day shift skill ≡ nurse ++ (codes " " ++ (day ++ (codes " " ++ (shift ++ (codes " " ++ (skill ++ (codes "\n" ++ [])))))))
line_text_is nurse day shift skill = simp append_assoc

-- the line of a weekday on which the nurse works
pub line_on_works : (s : Shown) (n weekday : ℕ) (nurse day shift skill : List ℕ) → Some (shift, skill) ≡ s.on n weekday → nurse ≡ s.nurse n → day ≡ weekday_text weekday
    → line_on s n weekday ≡ line_text nurse day shift skill
unfolding line_on assignment_line
line_on_works s n weekday nurse day shift skill on e d = rw (← on, ← e, d) refl

-- the line of a weekday on which the nurse is off is empty
pub line_on_free : (s : Shown) (n weekday : ℕ) → None ≡ s.on n weekday → line_on s n weekday ≡ []
unfolding line_on
line_on_free s n weekday e = rw (← e) refl

pub heading_is : (s : Shown) (week name count : List ℕ) → week ≡ decimal s.week → name ≡ s.name → count ≡ decimal (length (assignments s))
    → heading s ≡ codes "SOLUTION\n" ++ (week ++ (codes " " ++ (name ++ (codes "\n\nASSIGNMENTS = " ++ (count ++ (codes "\n" ++ []))))))
unfolding heading
heading_is s week name count e f h = rw (e, f, h) (simp append_assoc)

-- ---- the number of assignments

is_some-option_map : {X Y : Type 0} (f : X → Y) (o : Option X) → is_some (option_map f o) ≡ is_some o
is_some-option_map f None = refl
is_some-option_map f (Some x) = refl

length-filter_map-single : {X Y : Type 0} (h : X → Option Y) (x : X) → length (filter_map h (x ∷ [])) ≡ (if is_some (h x) then 1 else 0)
length-filter_map-single h x = elim (h x) as (λ o. length (cons_option o []) ≡ (if is_some o then 1 else 0)) [ None ↦ refl | Some y ↦ refl ]

-- one weekday more
pub count-weekday_more : {X : Type 0} (s : Shown) (n weekday count next : ℕ) (f : X → List ℕ × List ℕ) (on : Option X) → option_map f on ≡ s.on n weekday
    → count ≡ length (filter_map (assignment_on s n) (range_with_len 0 weekday)) → next ≡ count + (if is_some on then 1 else 0)
    → next ≡ length (filter_map (assignment_on s n) (range_with_len 0 (weekday + 1)))
count-weekday_more s n weekday count next f on shows so_far step =
    let h = assignment_on s n in
    let works : is_some (h weekday) ≡ is_some on = is_some-option_map _ (s.on n weekday) ∙ ap is_some (sym shows) ∙ is_some-option_map f on in
    let split : filter_map h (range_with_len 0 (weekday + 1)) ≡ filter_map h (range_with_len 0 weekday) ++ filter_map h (weekday ∷ []) =
    ap (filter_map h) (range_with_len_more weekday) ∙ filter_map-append h _ _ in
    let one : length (filter_map h (weekday ∷ [])) ≡ (if is_some on then 1 else 0) = length-filter_map-single h weekday ∙ ap (λ b. if b then 1 else 0) works in
    let joined : length (filter_map h (range_with_len 0 (weekday + 1))) ≡ length (filter_map h (range_with_len 0 weekday)) + length (filter_map h (weekday ∷ [])) =
    ap length split ∙ length-append (filter_map h (range_with_len 0 weekday)) (filter_map h (weekday ∷ [])) in
    omega arith

-- one nurse more
pub count-nurse_more : (s : Shown) (n count of_nurse : ℕ) → count ≡ length (flat_map (nurse_assignments s) (range_with_len 0 n)) → of_nurse ≡ length (nurse_assignments s n)
    → count + of_nurse ≡ length (flat_map (nurse_assignments s) (range_with_len 0 (n + 1)))
count-nurse_more s n count of_nurse so_far one =
    let split = ap length (flat_map-range_more (nurse_assignments s) n) ∙ length-append (flat_map (nurse_assignments s) (range_with_len 0 n)) (nurse_assignments s n) in
    omega arith
