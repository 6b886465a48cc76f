-- What a name becomes, part by part.
use Rattle.std.proofs.Common.{◌≡◌, ◌∙◌, ◌<◌, ◌++◌, ◌∷◌, [], ℕ, List, ap, append-nil, append_assoc, arith, drop, flat_map, length, map, refl, subst, sym, Option}
use Rattle.std.specs.Str.Chunks.{IsFirstChunk, utf8_chunk_invalid, utf8_chunk_valid}
use Rattle.std.specs.Str.Lossy.{replacement_bytes, utf8_invalid_len, utf8_lossy, utf8_valid_len}
use Rattle.std.specs.declared.str.Utf8Chunk.{Utf8Chunk}
use Rattle.std.proofs.lemmas.List.Concat.{flat_map-append}
use Rattle.std.proofs.lemmas.Str.{utf8_lossy_chunk, utf8_lossy_empty, utf8_lossy_last_chunk}
use Rattle.roster_text.specs.Io.{Stops, Watched, Writes}
use Rattle.roster_text.proofs.Texts.{Writes-append}
use Rattle.roster_json.proofs.Writing.{inner_stops}
use Rattle.roster_reports.specs.Lines.{Text}
use Rattle.roster_json.specs.Json.{chunk_text, escaped, invalid_text, member_of, next_text}
use Rattle.roster_json.specs.declared.object.Field.{Field}

-- ---- names

pub no_invalid : (bytes : Text) → length bytes ≡ 0 → invalid_text bytes ≡ []
no_invalid [] e = refl
no_invalid (x ∷ xs) e = absurd (omega (arith, e))

pub some_invalid : (bytes : Text) → 0 < length bytes → invalid_text bytes ≡ replacement_bytes
some_invalid [] h = absurd (omega (arith, h))
some_invalid (x ∷ xs) h = refl

-- a first part, and what the rest becomes
parts_of : (bs valid invalid rest : Text) → bs ≡ valid ++ (invalid ++ rest) → (length invalid ≡ 0 → length rest ≡ 0) → length valid ≡ utf8_valid_len bs
    → length invalid ≡ utf8_invalid_len (drop (utf8_valid_len bs) bs) → utf8_lossy bs ≡ (valid ++ invalid_text invalid) ++ utf8_lossy rest
parts_of bs valid [] rest are last longest cut =
    utf8_lossy_last_chunk bs valid [] rest are longest refl (last refl) ∙ ap (λ v. v ++ utf8_lossy rest) (sym (append-nil valid))
parts_of bs valid (x ∷ xs) rest are last longest cut =
    utf8_lossy_chunk bs valid (x ∷ xs) rest are longest cut (omega arith) ∙ sym (append_assoc valid replacement_bytes (utf8_lossy rest))

pub first_chunk : (bs : Text) (chunk : Utf8Chunk) (rest : Text) → bs ≡ utf8_chunk_valid chunk ++ (utf8_chunk_invalid chunk ++ rest)
    → (length (utf8_chunk_invalid chunk) ≡ 0 → length rest ≡ 0) → IsFirstChunk bs chunk → utf8_lossy bs ≡ chunk_text chunk ++ utf8_lossy rest
first_chunk bs chunk rest are last is = parts_of bs (utf8_chunk_valid chunk) (utf8_chunk_invalid chunk) rest are last is.0 is.1

-- the bytes of a part, one after the other
pub chunk_bytes : (chunk : Utf8Chunk) (first invalid mark : Text) → first ≡ utf8_chunk_valid chunk → invalid ≡ utf8_chunk_invalid chunk → 0 < length invalid → mark ≡ replacement_bytes
    → flat_map escaped first ++ flat_map escaped mark ≡ flat_map escaped (chunk_text chunk)
chunk_bytes chunk first invalid mark valid is some marks =
    sym (flat_map-append escaped first mark) ∙ ap (λ v. flat_map escaped (v ++ mark)) valid
    ∙ ap (λ m. flat_map escaped (utf8_chunk_valid chunk ++ m)) (marks ∙ sym (some_invalid invalid some) ∙ ap invalid_text is)

-- the parts so far are written, and the rest of the name becomes this text
pub record PartsWritten {W : Type 0} (contents : W → Option (List ℕ)) (old new : Watched W) (whole rest : Text) : Type 0 where
  pub done : Text
  pub written : Writes contents old new (flat_map escaped done)
  pub parts : whole ≡ done ++ rest

module _ {W : Type 0} (contents : W → Option (List ℕ)) (old mid : Watched W) (whole bs : Text) (so_far : PartsWritten contents old mid whole (utf8_lossy bs)) where
  -- the last part was written
  pub parts_all : length bs ≡ 0 → Writes contents old mid (flat_map escaped whole)
  parts_all none =
      subst (λ text. Writes contents old mid (flat_map escaped text))
      (sym (so_far.parts ∙ ap (λ l. so_far.done ++ l) (utf8_lossy_empty bs none) ∙ append-nil so_far.done)) so_far.written

  module _ (new : Watched W) (chunk : Utf8Chunk) (rest : Text) (are : bs ≡ utf8_chunk_valid chunk ++ (utf8_chunk_invalid chunk ++ rest))
      (last : length (utf8_chunk_invalid chunk) ≡ 0 → length rest ≡ 0) (is : IsFirstChunk bs chunk) where
    split : whole ≡ (so_far.done ++ chunk_text chunk) ++ utf8_lossy rest
    split = so_far.parts ∙ ap (λ l. so_far.done ++ l) (first_chunk bs chunk rest are last is) ∙ sym (append_assoc so_far.done (chunk_text chunk) (utf8_lossy rest))

    -- one more part is written
    pub parts_more : Writes contents mid new (flat_map escaped (chunk_text chunk)) → PartsWritten contents old new whole (utf8_lossy rest)
    parts_more written = record {
      done = so_far.done ++ chunk_text chunk;
      written = subst (Writes contents old new) (sym (flat_map-append escaped so_far.done (chunk_text chunk))) (Writes-append contents old mid new _ _ so_far.written written);
      parts = split;
    }

    -- a write failed in this part
    pub parts_stop : Stops contents mid new (flat_map escaped (chunk_text chunk)) → Stops contents old new (flat_map escaped whole)
    parts_stop stops =
        subst (Stops contents old new)
        (sym (ap (flat_map escaped) split ∙ flat_map-append escaped (so_far.done ++ chunk_text chunk) (utf8_lossy rest)
        ∙ ap (λ l. l ++ flat_map escaped (utf8_lossy rest)) (flat_map-append escaped so_far.done (chunk_text chunk))))
        (inner_stops contents old mid new (flat_map escaped so_far.done) so_far.written (flat_map escaped (chunk_text chunk)) (flat_map escaped (utf8_lossy rest)) stops)

-- ---- fields

pub fields_are : (fields : List Field) → flat_map (λ field. next_text (member_of field)) fields ≡ flat_map next_text (map member_of fields)
fields_are [] = refl
fields_are (x ∷ xs) = ap (λ l. next_text (member_of x) ++ l) (fields_are xs)
