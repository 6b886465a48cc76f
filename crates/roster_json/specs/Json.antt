-- JSON (RFC 8259): strings, and objects that stand on a line of their own.
use Rattle.std.specs.Prelude.{ℕ, ◌+◌, ◌/◌, ◌%◌, ◌==◌, ◌++◌, ◌∷◌, Bool, true, false, List, [], codes, decimal, flat_map, if◌then◌else◌, nat_lt}
use Rattle.std.specs.Str.Chunks.{utf8_chunk_invalid, utf8_chunk_valid}
use Rattle.std.specs.Str.Lossy.{replacement_bytes, utf8_lossy}
use Rattle.std.specs.declared.str.Utf8Chunk.{Utf8Chunk}
use Rattle.roster_reports.specs.Lines.{Text}
use Rattle.roster_json.specs.declared.object.Field.{Field}
use Rattle.roster_json.specs.declared.object.Field.TheVariants.{Number, Name, Truth}

-- a number below 16 as a digit: 0 to 9, or a to f
abbrev pub hex_digit : ℕ → ℕ
hex_digit n = if nat_lt n 10 then 48 + n else 87 + n

-- a byte in a string: `"` and `\` come after a `\`, a byte below 0x20 becomes \u00 and its two hexadecimal
-- digits, and every other byte stays
abbrev pub escaped : ℕ → Text
escaped byte =
    if byte == 34 then codes "\\\""
    else (if byte == 92 then codes "\\\\"
    else (if nat_lt byte 32 then codes "\\u00" ++ hex_digit (byte / 16) ∷ hex_digit (byte % 16) ∷ []
    else byte ∷ []))

-- the string of a name. What isn't UTF-8 in it becomes U+FFFD, as by Rust's `String::from_utf8_lossy`: one
-- for the longest beginning of a character that isn't finished, and one for each other such byte
abbrev pub string_text : Text → Text
string_text name = codes "\"" ++ flat_map escaped (utf8_lossy name) ++ codes "\""

-- what becomes of bytes that are no text, and of a part of a name with such bytes after it
abbrev pub invalid_text : Text → Text
invalid_text [] = []
invalid_text (byte ∷ bytes) = replacement_bytes

abbrev pub chunk_text : Utf8Chunk → Text
chunk_text chunk = utf8_chunk_valid chunk ++ invalid_text (utf8_chunk_invalid chunk)

abbrev pub truth_text : Bool → Text
truth_text true = codes "true"
truth_text false = codes "false"

-- a field of an object: its key, and its value as a text
abbrev pub Member : Type 0
Member = Text × Text

abbrev pub number : Text → ℕ → Member
number key n = (key, decimal n)

abbrev pub name : Text → Text → Member
name key text = (key, string_text text)

abbrev pub truth : Text → Bool → Member
truth key b = (key, truth_text b)

-- a field after others
abbrev pub next_text : Member → Text
next_text member = codes ",\"" ++ member.0 ++ codes "\":" ++ member.1

-- an object, which begins with its kind, as a line
abbrev pub object_line : Text → List Member → Text
object_line kind members =
    codes "{\"kind\":\"" ++ kind ++ codes "\"" ++ flat_map next_text members ++ codes "}\n"

-- what a field of the program means
abbrev pub member_of : Field → Member
member_of (Number key n) = number key.now n
member_of (Name key text) = name key.now text.now
member_of (Truth key b) = truth key.now b
