-- Numbers of several digits, each with a size of its own, and the states that have these numbers.
use Rattle.std.proofs.Common.{◌≡◌, ◌∙◌, ◌+◌, ◌-◌, ◌*◌, ◌/◌, ◌%◌, ◌<◌, ◌≤◌, ℕ, zero, suc, Option, Some, None, ap, ap₂, arith, cond, le-ltb, lt-ltb, mul-pos, mul_comm, mul_right_comm, refl, subst, sym, true}
use Rattle.std.proofs.lemmas.Bool.{and_from, and_parts, ltb-true}
use Rattle.std.proofs.lemmas.Nat.{div-add-mod', div-mul-add, div_below, mod-mul-add, mod_below, mul-add-lt}
use Rattle.roster_instance.specs.declared.choice.Shift.{Shift}
use Rattle.roster_instance.specs.Meaning.{Meaning, shift_at}
use Rattle.roster_rules.specs.Prefix.{Summary}
use Rattle.roster_instance.specs.Limits.{most_states}
use Rattle.roster_instance.specs.Sizes.{state_count}
use Rattle.roster_state.specs.Codes.{KeepLimits, Sizes, blocks, code_of, fits_sizes, product, shift_digit, shift_numbered, sizes_of, state_at, state_numbered}
use Rattle.roster_state.specs.Transition.{with_assignments}

-- ---- sizes

-- the product of a nurse's sizes is the number of the nurse's states
pub product-is_state_count : (c : Meaning) (n : ℕ) (z : Sizes) → z ≡ sizes_of c n → product z ≡ state_count c n
unfolding state_count
product-is_state_count c n z is = ap product is

pub product-some : (z : Sizes) → KeepLimits z → 0 < product z
product-some z keep = mul-pos (mul-pos (mul-pos (mul-pos keep.last.some keep.run.some) keep.shift_run.some) keep.assignments.some) keep.weekends.some

-- a product without one of its factors is within the same bound
pub factor-within : (a b most : ℕ) → 0 < b → a * b ≤ most → a ≤ most
factor-within a zero most some within = absurd (omega arith)
factor-within a (suc b) most some within = omega (arith, within)

-- ---- digits

-- one more digit makes a number below the product of both sizes
digit-below : (q b d a : ℕ) → q < a → d < b → q * b + d < a * b
digit-below q b d a front digit = subst (λ n. q * b + d < n) (mul_comm b a) (mul-add-lt q b d a front digit)

-- the digits of a state are below their sizes
pub record Fits (z : Sizes) (s : Summary) : Type 0 where
  pub last : shift_digit s.last < z.last
  pub run : s.run < z.run
  pub shift_run : s.shift_run < z.shift_run
  pub assignments : s.assignments < z.assignments
  pub weekends : s.weekends < z.weekends

pub fits-all : (z : Sizes) (s : Summary) → fits_sizes z s ≡ true → Fits z s
fits-all z s h =
    let to_assignments = and_parts _ _ h in
    let to_shift_run = and_parts _ _ to_assignments.0 in
    let to_run = and_parts _ _ to_shift_run.0 in
    let to_last = and_parts _ _ to_run.0 in
    record {
      last = ltb-true (shift_digit s.last) z.last to_last.0;
      run = ltb-true s.run z.run to_last.1;
      shift_run = ltb-true s.shift_run z.shift_run to_run.1;
      assignments = ltb-true s.assignments z.assignments to_shift_run.1;
      weekends = ltb-true s.weekends z.weekends to_assignments.1;
    }

pub all-fit : (z : Sizes) (s : Summary) → Fits z s → fits_sizes z s ≡ true
all-fit z s f =
    and_from _ _
    (and_from _ _ (and_from _ _ (and_from _ _ (lt-ltb (shift_digit s.last) z.last f.last) (lt-ltb s.run z.run f.run)) (lt-ltb s.shift_run z.shift_run f.shift_run)) (lt-ltb s.assignments z.assignments f.assignments))
    (lt-ltb s.weekends z.weekends f.weekends)

-- ---- the last shift as a number

pub shift_digit-shift_numbered : (n : ℕ) → shift_digit (shift_numbered n) ≡ n
shift_digit-shift_numbered zero = refl
shift_digit-shift_numbered (suc n) = ap (λ b. shift_digit (cond b (Some (shift_at (suc n - 1))) None)) (lt-ltb 0 (suc n) (omega arith)) ∙ omega arith

pub shift_numbered-shift_digit : (last : Option Shift) → shift_numbered (shift_digit last) ≡ last
shift_numbered-shift_digit None = refl
shift_numbered-shift_digit (Some s) =
    let back : s.0 + 1 - 1 ≡ s.0 = omega arith in
    ap (λ b. cond b (Some (shift_at (s.0 + 1 - 1))) None) (lt-ltb 0 (s.0 + 1) (omega arith)) ∙ ap (λ n. Some (shift_at n)) back

-- ---- the number of a state

module _ (z : Sizes) (s : Summary) (f : Fits z s) where
  -- the number without its last digits, with one more digit each time
  abbrev runs : ℕ
  runs = shift_digit s.last * z.run + s.run

  abbrev shift_runs : ℕ
  shift_runs = runs * z.shift_run + s.shift_run

  abbrev weekends : ℕ
  weekends = shift_runs * z.weekends + s.weekends

  code-below : code_of z s < z.last * z.run * z.shift_run * z.weekends * z.assignments
  unfolding code_of
  code-below =
      digit-below weekends z.assignments s.assignments _ (digit-below shift_runs z.weekends s.weekends _ (digit-below runs z.shift_run s.shift_run _ (digit-below (shift_digit s.last) z.run s.run z.last f.last f.run) f.shift_run) f.weekends) f.assignments

  code-within : code_of z s < product z
  code-within = subst (λ n. code_of z s < n) (mul_right_comm (z.last * z.run * z.shift_run) z.weekends z.assignments) code-below

  numbered : state_numbered z (code_of z s) ≡ s
  unfolding code_of state_numbered
  numbered =
      let first : code_of z s / z.assignments ≡ weekends = div-mul-add weekends z.assignments s.assignments f.assignments in
      let second : code_of z s / z.assignments / z.weekends ≡ shift_runs = ap (λ n. n / z.weekends) first ∙ div-mul-add shift_runs z.weekends s.weekends f.weekends in
      let third : code_of z s / z.assignments / z.weekends / z.shift_run ≡ runs = ap (λ n. n / z.shift_run) second ∙ div-mul-add runs z.shift_run s.shift_run f.shift_run in
      let fourth : code_of z s / z.assignments / z.weekends / z.shift_run / z.run ≡ shift_digit s.last = ap (λ n. n / z.run) third ∙ div-mul-add (shift_digit s.last) z.run s.run f.run in
      let last_is = ap shift_numbered fourth ∙ shift_numbered-shift_digit s.last in
      let run_is = ap (λ n. n % z.run) third ∙ mod-mul-add (shift_digit s.last) z.run s.run f.run in
      let shift_run_is = ap (λ n. n % z.shift_run) second ∙ mod-mul-add runs z.shift_run s.shift_run f.shift_run in
      let weekends_is = ap (λ n. n % z.weekends) first ∙ mod-mul-add shift_runs z.weekends s.weekends f.weekends in
      let assignments_is = mod-mul-add weekends z.assignments s.assignments f.assignments in
      λ i. record {
        last = last_is i;
        run = run_is i;
        shift_run = shift_run_is i;
        assignments = assignments_is i;
        weekends = weekends_is i;
      }

  state_at-code : state_at z (code_of z s) ≡ Some s
  unfolding state_at
  state_at-code = ap (λ b. cond b (Some (state_numbered z (code_of z s))) None) (lt-ltb (code_of z s) (product z) code-within) ∙ ap Some numbered

-- a state that fits has a number below the product, and is read back from it
pub numbered-within : (z : Sizes) (s : Summary) → fits_sizes z s ≡ true → code_of z s < product z
numbered-within z s fit = code-within z s (fits-all z s fit)

-- states with the same number are equal
one_code : (z : Sizes) (s other : Summary) → Fits z s → Fits z other → code_of z other ≡ code_of z s → other ≡ s
one_code z s other f g same = sym (numbered z other g) ∙ ap (state_numbered z) same ∙ numbered z s f

-- ---- the number, as it is computed digit by digit

module _ (z now : Sizes) (s state : Summary) (number : ℕ) (sizes : z ≡ now) (digits : s ≡ state) (last : number ≡ shift_digit s.last) where
  abbrev to_weekends : ℕ
  to_weekends = ((number * z.run + s.run) * z.shift_run + s.shift_run) * z.weekends + s.weekends

  abbrev all_digits : ℕ
  all_digits = to_weekends * z.assignments + s.assignments

  pub code-is : all_digits ≡ code_of now state
  unfolding code_of
  code-is = ap (λ n. (((n * z.run + s.run) * z.shift_run + s.shift_run) * z.weekends + s.weekends) * z.assignments + s.assignments) last ∙ ap₂ code_of sizes digits

  module _ (fit : fits_sizes now state ≡ true) where
    there : Fits now state
    there = fits-all now state fit

    pub digits-within : all_digits < product now
    digits-within = subst (λ n. n < product now) (sym code-is) (code-within now state there)

    pub digits-of_one : (other : Summary) → fits_sizes now other ≡ true → code_of now other ≡ all_digits → other ≡ state
    digits-of_one other fit_too same = one_code now state other there (fits-all now other fit_too) (same ∙ code-is)

    pub digits-back : state_at now all_digits ≡ Some state
    digits-back = ap (state_at now) code-is ∙ state_at-code now state there

    -- no number on the way is large
    module _ (keep : KeepLimits z) where
      pub digits-small : all_digits < most_states
      digits-small = omega (arith, digits-within, keep.states, ap product sizes)

      pub weekends-small : to_weekends ≤ most_states
      weekends-small = factor-within to_weekends z.assignments most_states keep.assignments.some (omega (arith, digits-small))

-- ---- the state of a number

module _ (z : Sizes) (code : ℕ) where
  pub state_at-none : product z ≤ code → state_at z code ≡ None
  unfolding state_at
  state_at-none h = ap (λ b. cond b (Some (state_numbered z code)) None) (le-ltb code (product z) h)

  code-numbered : code_of z (state_numbered z code) ≡ code
  unfolding code_of state_numbered
  code-numbered =
      let first = code / z.assignments in
      let second = first / z.weekends in
      let third = second / z.shift_run in
      ap (λ n. n * z.assignments + code % z.assignments)
      (ap (λ n. n * z.weekends + first % z.weekends)
      (ap (λ n. n * z.shift_run + second % z.shift_run)
      (ap (λ n. n * z.run + third % z.run) (shift_digit-shift_numbered (third / z.run)) ∙ div-add-mod' third z.run)
      ∙ div-add-mod' second z.shift_run)
      ∙ div-add-mod' first z.weekends)
      ∙ div-add-mod' code z.assignments

  module _ (keep : KeepLimits z) (below : code < product z) where
    last-below : code / z.assignments / z.weekends / z.shift_run / z.run < z.last
    last-below =
        let all = subst (λ n. code < n) (mul_right_comm (z.last * z.run * z.shift_run) z.assignments z.weekends) below in
        div_below _ z.run z.last keep.run.some (div_below _ z.shift_run (z.last * z.run) keep.shift_run.some (div_below _ z.weekends (z.last * z.run * z.shift_run) keep.weekends.some
        (div_below code z.assignments (z.last * z.run * z.shift_run * z.weekends) keep.assignments.some all)))

    numbered-fits : fits_sizes z (state_numbered z code) ≡ true
    unfolding state_numbered
    numbered-fits = all-fit z (state_numbered z code) (record {
      last = subst (λ n. n < z.last) (sym (shift_digit-shift_numbered _)) last-below;
      run = mod_below _ z.run keep.run.some;
      shift_run = mod_below _ z.shift_run keep.shift_run.some;
      assignments = mod_below code z.assignments keep.assignments.some;
      weekends = mod_below _ z.weekends keep.weekends.some;
    })

    state_at-some : state_at z code ≡ Some (state_numbered z code)
    unfolding state_at
    state_at-some = ap (λ b. cond b (Some (state_numbered z code)) None) (lt-ltb code (product z) below)

-- ---- the state, as it is read digit by digit

-- the first digit is the number of a shift
pub last-small : (z now : Sizes) (code : ℕ) → z ≡ now → KeepLimits z → code < product now → code / z.assignments / z.weekends / z.shift_run / z.run ≤ 256
last-small z now code sizes keep below = omega (arith, keep.last, last-below z code keep (subst (λ n. code < n) (ap product (sym sizes)) below))

module _ (z now : Sizes) (code : ℕ) (last : Option Shift) (sizes : z ≡ now) (last_is : last ≡ shift_numbered (code / z.assignments / z.weekends / z.shift_run / z.run)) where
  abbrev read : Summary
  read = record {
    last = last;
    run = code / z.assignments / z.weekends / z.shift_run % z.run;
    shift_run = code / z.assignments / z.weekends % z.shift_run;
    assignments = code % z.assignments;
    weekends = code / z.assignments % z.weekends;
  }

  read-is : read ≡ state_numbered now code
  unfolding state_numbered
  read-is = ap (λ l. record read { last = l }) last_is ∙ ap (λ z. state_numbered z code) sizes

  pub read-back : code_of now read ≡ code
  read-back = ap (code_of now) read-is ∙ code-numbered now code

  module _ (keep : KeepLimits z) (below : code < product now) where
    pub read-fits : fits_sizes now read ≡ true
    read-fits = ap (fits_sizes now) read-is ∙ numbered-fits now code (subst KeepLimits sizes keep) below

    pub read-state : Some read ≡ state_at now code
    read-state = ap Some read-is ∙ sym (state_at-some now code (subst KeepLimits sizes keep) below)

-- ---- the states of a block, one for each number of assignments

module _ (z now : Sizes) (block : ℕ) (sizes : z ≡ now) (keep : KeepLimits z) (below : block < blocks now) where
  in-block : (a : ℕ) → a < z.assignments → block * z.assignments + a < product now
  in-block a inside =
      let few : block < blocks z = subst (λ n. block < n) (ap blocks (sym sizes)) below in
      let all : block * z.assignments + a < blocks z * z.assignments = digit-below block z.assignments a (blocks z) few inside in
      subst (λ n. block * z.assignments + a < n) (mul_right_comm (z.last * z.run * z.shift_run) z.weekends z.assignments ∙ ap product sizes) all

  front : (a : ℕ) → a < z.assignments → (block * z.assignments + a) / z.assignments ≡ block
  front a inside = div-mul-add block z.assignments a inside

  pub first-small : block / z.weekends / z.shift_run / z.run ≤ 256
  first-small =
      subst (λ q. q / z.weekends / z.shift_run / z.run ≤ 256) (front 0 keep.assignments.some)
      (last-small z now (block * z.assignments + 0) sizes keep (in-block 0 keep.assignments.some))

  module _ (last : Option Shift) (last_is : last ≡ shift_numbered (block / z.weekends / z.shift_run / z.run)) where
    abbrev of_block : ℕ → Summary
    of_block a = record {
      last = last;
      run = block / z.weekends / z.shift_run % z.run;
      shift_run = block / z.weekends % z.shift_run;
      assignments = a;
      weekends = block % z.weekends;
    }

    module _ (a : ℕ) (within : a < now.assignments) where
      inside : a < z.assignments
      inside = subst (λ y. a < y.assignments) (sym sizes) within

      read_last : last ≡ shift_numbered ((block * z.assignments + a) / z.assignments / z.weekends / z.shift_run / z.run)
      read_last = last_is ∙ ap (λ q. shift_numbered (q / z.weekends / z.shift_run / z.run)) (sym (front a inside))

      read-is_block : read z now (block * z.assignments + a) last sizes read_last ≡ of_block a
      read-is_block =
          let q = front a inside in
          let r = mod-mul-add block z.assignments a inside in
          λ i. record {
            last = last;
            run = q i / z.weekends / z.shift_run % z.run;
            shift_run = q i / z.weekends % z.shift_run;
            assignments = r i;
            weekends = q i % z.weekends;
          }

      pub block-fits : fits_sizes now (of_block a) ≡ true
      block-fits = subst (λ s. fits_sizes now s ≡ true) read-is_block (read-fits z now (block * z.assignments + a) last sizes read_last keep (in-block a inside))

      pub block-state : state_at now (block * now.assignments + a) ≡ Some (of_block a)
      block-state =
          subst (λ y. state_at now (block * y.assignments + a) ≡ Some (of_block a)) sizes
          (sym (read-state z now (block * z.assignments + a) last sizes read_last keep (in-block a inside)) ∙ ap Some read-is_block)

      pub block-code : code_of now (of_block a) ≡ block * now.assignments + a
      block-code =
          subst (λ y. code_of now (of_block a) ≡ block * y.assignments + a) sizes
          (subst (λ s. code_of now s ≡ block * z.assignments + a) read-is_block (read-back z now (block * z.assignments + a) last sizes read_last))

-- ---- the places of a block

-- a state fits with any number of assignments that is one of its values
pub place-fits : (z : Sizes) (s : Summary) (a : ℕ) → a < z.assignments → fits_sizes z s ≡ true → fits_sizes z (with_assignments s a) ≡ true
place-fits z s a inside fit =
    let f = fits-all z s fit in
    all-fit z (with_assignments s a) (record {
      last = f.last;
      run = f.run;
      shift_run = f.shift_run;
      assignments = inside;
      weekends = f.weekends;
    })

module _ (z : Sizes) (s : Summary) (first : s.assignments ≡ 0) where
  pub place-code : (a : ℕ) → code_of z (with_assignments s a) ≡ code_of z s + a
  unfolding code_of
  place-code a = omega (arith, first)

  pub places-within : fits_sizes z s ≡ true → code_of z s + z.assignments ≤ product z
  places-within fit =
      let some = (fits-all z s fit).assignments in
      let last = z.assignments - 1 in
      omega (arith, some, place-code last, numbered-within z (with_assignments s last) (place-fits z s last (omega (arith, some)) fit))
