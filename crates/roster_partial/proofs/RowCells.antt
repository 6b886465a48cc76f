-- Partial rows in the cells of a label table.
use Rattle.std.proofs.Common.{◌≡◌, ◌≢◌, ◌∙◌, ◌+◌, ◌*◌, ◌/◌, ◌%◌, ◌<◌, ◌≤◌, ℕ, zero, suc, inl, inr, ap, arith, refl, sym, List, [], ◌∷◌, ◌++◌, length, slice_index_or, slice_set}
use Rattle.std.proofs.lemmas.Bool.{cases_lt}
use Rattle.std.proofs.lemmas.Grind.{get_or-set_at}
use Rattle.std.proofs.lemmas.List.{get_or-set_other, get_or_append_left, length-append, length-set, set-append_left}
use Rattle.std.proofs.lemmas.Nat.{div-mul-add, mod-mul-add}
use Rattle.std.proofs.Math.Seq.{get_or-append_seam, set-append_seam}
use Rattle.roster_state.specs.Codes.{shift_digit, shift_numbered}
use Rattle.roster_state.proofs.CodeLemmas.{shift_numbered-shift_digit}
use Rattle.roster_partial.specs.declared.rows.Entry.{Entry}
use Rattle.roster_partial.specs.Rows.{count_in, entry_in, entry_numbered, entry_of, rows_in, rows_to}

-- ---- the entries, index by index

module _ (cells : List ℕ) where
  length-rows_to : (n : ℕ) → length (rows_to cells n) ≡ n
  length-rows_to zero = refl
  length-rows_to (suc n) = omega (arith, length-append (rows_to cells n) (entry_in cells n ∷ []), length-rows_to n)

  at-rows_to : (n k : ℕ) (d : Entry) → k < n → slice_index_or (rows_to cells n) k d ≡ entry_in cells k
  at-rows_to zero k d below = absurd (omega (arith, below))
  at-rows_to (suc n) k d below = elim (cases_lt k n) [
    | inl h ↦ get_or_append_left (rows_to cells n) (entry_in cells n ∷ []) d k (omega (arith, h, length-rows_to n)) ∙ at-rows_to n k d h
    | inr h ↦
        let last : k ≡ length (rows_to cells n) = omega (arith, below, h, length-rows_to n) in
        let same : n ≡ k = omega (arith, below, h) in
        ap (λ j. slice_index_or (rows_to cells n ++ entry_in cells n ∷ []) j d) last ∙ get_or-append_seam (rows_to cells n) (entry_in cells n) [] d ∙ ap (entry_in cells) same
  ]

  pub length-rows_in : length (rows_in cells) ≡ count_in cells
  unfolding rows_in
  length-rows_in = length-rows_to (count_in cells)

  pub at-rows_in : (k : ℕ) (d : Entry) → k < count_in cells → slice_index_or (rows_in cells) k d ≡ entry_in cells k
  unfolding rows_in
  at-rows_in k d below = at-rows_to (count_in cells) k d below

  pub none-rows_in : count_in cells ≡ 0 → rows_in cells ≡ []
  unfolding rows_in
  none-rows_in none = ap (rows_to cells) none

  -- as many as the cells say
  pub rows_counted : (n : ℕ) → n ≡ count_in cells → n ≡ length (rows_in cells)
  rows_counted n is = is ∙ sym length-rows_in

-- ---- the cells of an entry

-- what four cells hold is the entry that was put there
module _ (e : Entry) (cost runs counts link : ℕ) where
  pub entry_is : cost ≡ e.cost → runs / 65536 ≡ e.state.run → runs % 65536 ≡ e.state.shift_run → counts / 65536 ≡ e.state.assignments → counts % 65536 ≡ e.state.weekends
      → link ≡ (e.before * 16 + e.offer) * 16 + shift_digit e.state.last → e.offer < 16 → shift_digit e.state.last < 16 → entry_of cost runs counts link ≡ e
  entry_is costs run shift_run assignments weekends is small few =
      let last : shift_numbered (link % 16) ≡ e.state.last = ap (λ n. shift_numbered (n % 16)) is ∙ ap shift_numbered (mod-mul-add (e.before * 16 + e.offer) 16 (shift_digit e.state.last) few) ∙ shift_numbered-shift_digit e.state.last in
      let both : link / 16 ≡ e.before * 16 + e.offer = ap (λ n. n / 16) is ∙ div-mul-add (e.before * 16 + e.offer) 16 (shift_digit e.state.last) few in
      let before : link / 16 / 16 ≡ e.before = ap (λ n. n / 16) both ∙ div-mul-add e.before 16 e.offer small in
      let offer : link / 16 % 16 ≡ e.offer = ap (λ n. n % 16) both ∙ mod-mul-add e.before 16 e.offer small in
      λ i. record { state = record { last = last i; run = run i; shift_run = shift_run i; assignments = assignments i; weekends = weekends i }; cost = costs i; before = before i; offer = offer i }

-- ---- two tables

module _ (old new : List ℕ) where
  same_entry : (k : ℕ) → slice_index_or new (4 * k + 1) 0 ≡ slice_index_or old (4 * k + 1) 0 → slice_index_or new (4 * k + 2) 0 ≡ slice_index_or old (4 * k + 2) 0 → slice_index_or new (4 * k + 3) 0 ≡ slice_index_or old (4 * k + 3) 0 → slice_index_or new (4 * k + 4) 0 ≡ slice_index_or old (4 * k + 4) 0 → entry_in new k ≡ entry_in old k
  same_entry k cost runs counts link = λ i. entry_of (cost i) (runs i) (counts i) (link i)

  same-rows_to : (n : ℕ) → ((k : ℕ) → k < n → entry_in new k ≡ entry_in old k) → rows_to new n ≡ rows_to old n
  same-rows_to zero same = refl
  same-rows_to (suc n) same = λ i. same-rows_to n (λ k below. same k (omega (arith, below))) i ++ same n (omega arith) i ∷ []

  -- the cells of the first entries are the same
  module _ (kept : (j : ℕ) → j ≢ 0 → j ≤ 4 * count_in old → slice_index_or new j 0 ≡ slice_index_or old j 0) where
    kept_entry : (k : ℕ) → k < count_in old → entry_in new k ≡ entry_in old k
    kept_entry k below = same_entry k (kept (4 * k + 1) (omega arith) (omega (arith, below))) (kept (4 * k + 2) (omega arith) (omega (arith, below))) (kept (4 * k + 3) (omega arith) (omega (arith, below))) (kept (4 * k + 4) (omega arith) (omega (arith, below)))

    -- and those of one more are set
    pub pushed : (e : Entry) → entry_in new (count_in old) ≡ e → count_in new ≡ count_in old + 1 → rows_in new ≡ rows_in old ++ e ∷ []
    unfolding rows_in
    pushed e is more =
        let next : count_in new ≡ suc (count_in old) = omega (arith, more) in
        ap (rows_to new) next ∙ (λ i. same-rows_to (count_in old) kept_entry i ++ is i ∷ [])

  -- the cost of one entry is changed
  module _ (index cost : ℕ) (is : slice_index_or new (4 * index + 1) 0 ≡ cost) (others : (j : ℕ) → j ≢ 4 * index + 1 → slice_index_or new j 0 ≡ slice_index_or old j 0) where
    other_entry : (k : ℕ) → k ≢ index → entry_in new k ≡ entry_in old k
    other_entry k apart = same_entry k (others (4 * k + 1) (λ e. apart (omega (arith, e)))) (others (4 * k + 2) (λ e. absurd (omega (arith, e)))) (others (4 * k + 3) (λ e. absurd (omega (arith, e)))) (others (4 * k + 4) (λ e. absurd (omega (arith, e))))

    this_entry : entry_in new index ≡ record (entry_in old index) { cost = cost }
    this_entry =
        let runs = others (4 * index + 2) (λ e. absurd (omega (arith, e))) in
        let counts = others (4 * index + 3) (λ e. absurd (omega (arith, e))) in
        let link = others (4 * index + 4) (λ e. absurd (omega (arith, e))) in
        λ i. entry_of (is i) (runs i) (counts i) (link i)

    one_cost : (n : ℕ) → index < n → rows_to new n ≡ slice_set (rows_to old n) index (record (entry_in old index) { cost = cost })
    one_cost zero below = absurd (omega (arith, below))
    one_cost (suc n) below = elim (cases_lt index n) [
      | inl h ↦
          let apart : n ≢ index = λ e. absurd (omega (arith, e, h)) in
          (λ i. one_cost n h i ++ other_entry n apart i ∷ [])
          ∙ sym (set-append_left (rows_to old n) (entry_in old n ∷ []) index (record (entry_in old index) { cost = cost }) (omega (arith, h, length-rows_to old n)))
      | inr h ↦
          let same : n ≡ index = omega (arith, below, h) in
          let last : length (rows_to old n) ≡ index = omega (arith, below, h, length-rows_to old n) in
          (λ i. same-rows_to n (λ k l. other_entry k (λ e. absurd (omega (arith, e, l, h)))) i ++ (ap (entry_in new) same ∙ this_entry) i ∷ [])
          ∙ sym (set-append_seam (rows_to old n) (entry_in old n) [] (record (entry_in old index) { cost = cost }))
          ∙ ap (λ k. slice_set (rows_to old n ++ entry_in old n ∷ []) k (record (entry_in old index) { cost = cost })) last
    ]

    pub marked : index < count_in old → count_in new ≡ count_in old → rows_in new ≡ slice_set (rows_in old) index (record (entry_numbered (rows_in old) index) { cost = cost })
    unfolding rows_in
    marked below same =
        ap (rows_to new) same ∙ one_cost (count_in old) below
        ∙ ap (λ (e : Entry). slice_set (rows_to old (count_in old)) index (record e { cost = cost })) (sym (at-rows_to old (count_in old) index _ below))

-- ---- the cells of one more, as they are written

module _ (cells : List ℕ) (first cost runs counts link more : ℕ) (room : first + 5 ≤ length cells) where
  abbrev one : List ℕ
  one = slice_set cells (first + 1) cost

  abbrev two : List ℕ
  two = slice_set one (first + 2) runs

  abbrev three : List ℕ
  three = slice_set two (first + 3) counts

  abbrev four : List ℕ
  four = slice_set three (first + 4) link

  abbrev pub written : List ℕ
  written = slice_set four 0 more

  long_one : length one ≡ length cells
  long_one = length-set cells (first + 1) cost

  long_two : length two ≡ length cells
  long_two = length-set one (first + 2) runs ∙ long_one

  long_three : length three ≡ length cells
  long_three = length-set two (first + 3) counts ∙ long_two

  long_four : length four ≡ length cells
  long_four = length-set three (first + 4) link ∙ long_three

  pub written_count : slice_index_or written 0 0 ≡ more
  written_count = get_or-set_at four 0 0 more 0 refl (omega (arith, room, long_four))

  -- the first cell is the last one that is set
  but_first : (j : ℕ) → j ≢ 0 → slice_index_or written j 0 ≡ slice_index_or four j 0
  but_first j some = get_or-set_other four 0 j more 0 some

  pub written_link : slice_index_or written (first + 4) 0 ≡ link
  written_link = but_first (first + 4) (λ e. absurd (omega (arith, e))) ∙ get_or-set_at three (first + 4) (first + 4) link 0 refl (omega (arith, room, long_three))

  pub written_counts : slice_index_or written (first + 3) 0 ≡ counts
  written_counts =
      but_first (first + 3) (λ e. absurd (omega (arith, e)))
      ∙ get_or-set_other three (first + 4) (first + 3) link 0 (λ e. absurd (omega (arith, e)))
      ∙ get_or-set_at two (first + 3) (first + 3) counts 0 refl (omega (arith, room, long_two))

  pub written_runs : slice_index_or written (first + 2) 0 ≡ runs
  written_runs =
      but_first (first + 2) (λ e. absurd (omega (arith, e)))
      ∙ get_or-set_other three (first + 4) (first + 2) link 0 (λ e. absurd (omega (arith, e)))
      ∙ get_or-set_other two (first + 3) (first + 2) counts 0 (λ e. absurd (omega (arith, e)))
      ∙ get_or-set_at one (first + 2) (first + 2) runs 0 refl (omega (arith, room, long_one))

  pub written_cost : slice_index_or written (first + 1) 0 ≡ cost
  written_cost =
      but_first (first + 1) (λ e. absurd (omega (arith, e)))
      ∙ get_or-set_other three (first + 4) (first + 1) link 0 (λ e. absurd (omega (arith, e)))
      ∙ get_or-set_other two (first + 3) (first + 1) counts 0 (λ e. absurd (omega (arith, e)))
      ∙ get_or-set_other one (first + 2) (first + 1) runs 0 (λ e. absurd (omega (arith, e)))
      ∙ get_or-set_at cells (first + 1) (first + 1) cost 0 refl (omega (arith, room))

  pub written_others : (j : ℕ) → j ≢ 0 → j ≤ first → slice_index_or written j 0 ≡ slice_index_or cells j 0
  written_others j some below =
      but_first j some
      ∙ get_or-set_other three (first + 4) j link 0 (λ e. absurd (omega (arith, e, below)))
      ∙ get_or-set_other two (first + 3) j counts 0 (λ e. absurd (omega (arith, e, below)))
      ∙ get_or-set_other one (first + 2) j runs 0 (λ e. absurd (omega (arith, e, below)))
      ∙ get_or-set_other cells (first + 1) j cost 0 (λ e. absurd (omega (arith, e, below)))
