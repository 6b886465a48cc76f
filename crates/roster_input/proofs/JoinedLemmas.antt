-- What one read of the joined readers takes.
use Rattle.std.proofs.Common.{◌≡◌, ◌∙◌, ◌+◌, ◌<◌, add-one, ap, arith, sym, subst, refl, codes, List, ◌∷◌, ◌++◌, ℕ, Option, Some, None, Ok, Result, length, get_or, drop, take, suc, append_assoc}
use Rattle.std.proofs.Math.ListN.{set}
use Rattle.std.proofs.Math.Seq.{drop-cons}
use Rattle.std.specs.Io.KnownBytes.{Consumes, IsAtEnd, Keeps, ReadConsumes}
use Rattle.std.specs.Prelude.{[], option_and_then, option_map}
use Rattle.roster_input.specs.JoinedBytes.{joined_bytes}

-- the bytes of a reader, one LF, and the bytes of the others
abbrev joined_with : Option (List ℕ) → Option (List ℕ) → Option (List ℕ)
joined_with others = option_and_then (λ bytes. option_map (λ after. bytes ++ codes "\n" ++ after) others)

-- if the first reader is at its end, the LF comes next
end_taken : (before after others : Option (List ℕ)) → Consumes before after [] → IsAtEnd after → Consumes (joined_with others before) others (codes "\n")
end_taken None after others taken ended = tt
end_taken (Some bytes) None others taken ended = absurd taken
end_taken (Some bytes) (Some left) None taken ended = tt
end_taken (Some bytes) (Some left) (Some xs) taken ended = ap (λ b. b ++ codes "\n" ++ xs) (taken ∙ ended)

-- ---- the readers that are left after `done` of them came to their end

-- the first of them and the others
pub first_left : {R : Type 0} (readers : List R) (done : ℕ) (old : R) → done < length readers → old ≡ get_or readers done old → drop done readers ≡ old ∷ drop (done + 1) readers
first_left readers done old within is = drop-cons readers done old within ∙ ap (λ r. r ∷ drop (suc done) readers) (sym is) ∙ ap (λ n. old ∷ drop n readers) (sym (add-one done))

-- the first is at its end, so the LF after it is given
pub end_given : {R : Type 0} (remaining : R → Option (List ℕ)) (readers left : List R) (old new : R) (rest : List R) → readers ≡ old ∷ rest → left ≡ rest
    → Consumes (remaining old) (remaining new) [] → IsAtEnd (remaining new) → Consumes (joined_bytes remaining readers) (joined_bytes remaining left) (codes "\n")
end_given remaining readers left old new rest before after taken ended =
    subst (λ l. Consumes (joined_bytes remaining readers) (joined_bytes remaining l) (codes "\n")) (sym after)
    (subst (λ r. Consumes (joined_bytes remaining r) (joined_bytes remaining rest) (codes "\n")) (sym before)
    (end_taken (remaining old) (remaining new) (joined_bytes remaining rest) taken ended))

-- the one byte that was written
pub first_byte : (buf : List ℕ) (byte : ℕ) → 0 < length buf → take 1 (set buf 0 byte) ≡ byte ∷ []
first_byte [] byte room = absurd (omega arith)
first_byte (b ∷ buf) byte room = refl

-- a read of the first reader gave nothing, so the LF after it is given instead
pub ended : {R E : Type 0} (remaining : R → Option (List ℕ)) (readers left after : List R) (old new : R) (rest : List R) (result : Result ℕ E) (taken : ℕ) (buf : List ℕ) → readers ≡ old ∷ rest → left ≡ new ∷ rest → after ≡ drop 1 left
    → result ≡ Ok taken → taken ≡ 0 → 0 < length buf → ReadConsumes (remaining old) (remaining new) result buf → Consumes (joined_bytes remaining readers) (joined_bytes remaining after) (take 1 (set buf 0 10))
ended remaining readers left after old new rest result taken buf before later is was none room read =
    let given = subst (λ r. ReadConsumes (remaining old) (remaining new) r buf) was read in
    let nothing : Consumes (remaining old) (remaining new) [] = subst (λ n. Consumes (remaining old) (remaining new) (take n buf)) none given.0 in
    subst (Consumes (joined_bytes remaining readers) (joined_bytes remaining after)) (sym (first_byte buf 10 room))
    (end_given remaining readers after old new rest before (is ∙ ap (drop 1) later) nothing (given.1 none room))

-- a reader's bytes are given, and those of the others stay
first_given : (before after others : Option (List ℕ)) (bs : List ℕ) → Consumes before after bs → Consumes (joined_with others before) (joined_with others after) bs
first_given None after others bs taken = tt
first_given (Some bytes) None others bs taken = absurd taken
first_given (Some bytes) (Some left) None bs taken = tt
first_given (Some bytes) (Some left) (Some xs) bs taken = rw taken (simp append_assoc)

first_kept : (before after others : Option (List ℕ)) → Keeps before after → Keeps (joined_with others before) (joined_with others after)
first_kept None after others kept = tt
first_kept (Some bytes) None others kept = absurd kept
first_kept (Some bytes) (Some left) None kept = tt
first_kept (Some bytes) (Some left) (Some xs) kept = ap (λ b. b ++ codes "\n" ++ xs) kept
