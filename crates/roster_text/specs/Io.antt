-- Readers and writers under watch: what they give and take, and how often they have failed.
use Rattle.std.specs.Prelude.{◌≡◌, ℕ, ◌+◌, ◌-◌, ◌^◌, ◌<◌, min, Bool, true, false, List, length, take, Ok, Err, Option, Result, nat_lt, ◌==◌, ◌&&◌, if◌then◌else◌}
use Rattle.std.specs.Borrow.{Bor, MutBor}
use Rattle.std.specs.Fn.{Once}
use Rattle.std.specs.Io.KnownBytes.{Appends, Consumes}
use Rattle.roster_text.specs.declared.fault.TextFault.{TextFault}
use Rattle.roster_text.specs.declared.fault.TextFault.TheVariants.{Memory, ReadFailed, TooLong}
use Rattle.roster_text.specs.declared.fault.WriteFault.{WriteFault}
use Rattle.roster_text.specs.declared.fault.WriteFault.TheVariants.{WriteFailed}

-- the number of flushes that a writer had, and the number of these that have failed
pub record Flushes : Type 0 where
  pub made : ℕ
  pub failed : ℕ

-- a reader or a writer, the number of its reads and writes, the number of these that have failed, and its
-- flushes
pub record Watched (T : Type 0) : Type 0 where
  pub inner : T
  pub calls : ℕ
  pub failures : ℕ
  pub flushes : Flushes

-- a count that stops at 2 ^ 64 - 1
abbrev pub saturated : ℕ → ℕ
saturated n = min n (2 ^ 64 - 1)

-- one more, but not above 2 ^ 64 - 1
abbrev pub one_more : ℕ → ℕ
one_more count = saturated (count + 1)

-- the count of failures after a call that failed or not
abbrev pub counted : ℕ → Bool → ℕ
counted failures fails = if fails then one_more failures else failures

-- after one more flush
abbrev pub one_flush : Flushes → Bool → Flushes
one_flush flushes fails = record { made = one_more flushes.made; failed = counted flushes.failed fails }

-- a write of these bytes failed, or took none of at least one
abbrev pub is_refused : {E : Type 0} → Result ℕ E → List ℕ → Bool
is_refused (Ok n) bytes = n == 0 && nat_lt 0 (length bytes)
is_refused (Err e) bytes = true

-- The result is that of one call of `read` on a device `old` and a buffer with these bytes. The call left the
-- device as `new` and the buffer as `filled`.
pub record IsOneRead {F T R : Type 0}
    (g : Once F (MutBor T × (MutBor (List ℕ) × Unit {0})) (R × (MutBor T × (MutBor (List ℕ) × Unit {0}))))
    (read : F) (old : T) (bytes : List ℕ) (result : R) (new : T) (filled : List ℕ) : Type 0 where
  pub device : MutBor T
  pub buffer : MutBor (List ℕ)
  pub shows : (device.now ≡ old) × (buffer.now ≡ bytes)
  pub device_left : MutBor T
  pub buffer_left : MutBor (List ℕ)
  pub met : g.post read (device, (buffer, tt)) (result, (device_left, (buffer_left, tt)))
  pub leaves : (device_left.now ≡ new) × (buffer_left.now ≡ filled)

-- the same for one call of `write`, on a device and these bytes
pub record IsOneWrite {F T R : Type 0}
    (g : Once F (MutBor T × (Bor (List ℕ) × Unit {0})) (R × (MutBor T × Unit {0})))
    (write : F) (old : T) (bytes : List ℕ) (result : R) (new : T) : Type 0 where
  pub device : MutBor T
  pub buffer : Bor (List ℕ)
  pub shows : (device.now ≡ old) × (buffer.now ≡ bytes)
  pub device_left : MutBor T
  pub met : g.post write (device, (buffer, tt)) (result, (device_left, tt))
  pub leaves : device_left.now ≡ new

-- a reader that had the first bytes left gave some of them, from the front, and has the second left
abbrev pub TakesFront : Option (List ℕ) → Option (List ℕ) → Type 0
TakesFront old new = (bytes : List ℕ) × Consumes old new bytes

-- the faults that are possible before there is a text
abbrev pub IsReadFault : TextFault → Type 0
IsReadFault Memory = Unit {0}
IsReadFault ReadFailed = Unit {0}
IsReadFault TooLong = Unit {0}
IsReadFault _ = ⊥

-- the result says that a read failed
abbrev pub is_read_failure : {A : Type 0} → Result A TextFault → Bool
is_read_failure (Err ReadFailed) = true
is_read_failure _ = false

-- ---- writing a text; `contents` is what a writer holds

-- the writer took the whole text, no write failed, and nothing was flushed
pub record Writes {W : Type 0} (contents : W → Option (List ℕ)) (old new : Watched W)
    (text : List ℕ) : Type 0 where
  pub taken : Appends (contents old.inner) (contents new.inner) text
  pub flushes : new.flushes ≡ old.flushes
  pub failures : new.failures ≡ old.failures

-- one write failed when the writer had taken exactly these first bytes of the text, and more were left;
-- nothing was flushed
pub record StopsAt {W : Type 0} (contents : W → Option (List ℕ)) (old new : Watched W) (text : List ℕ)
    (sent : ℕ) : Type 0 where
  pub taken : Appends (contents old.inner) (contents new.inner) (take sent text)
  pub left : sent < length text
  pub flushes : new.flushes ≡ old.flushes
  pub failures : new.failures ≡ one_more old.failures

-- the number of bytes that a fault says were sent
abbrev pub sent_of : WriteFault → ℕ
sent_of (WriteFailed sent) = sent

-- a write failed inside the text, and the fault counts the bytes that were taken before
pub record StopsIn {W : Type 0} (contents : W → Option (List ℕ)) (old new : Watched W) (text : List ℕ)
    (fault : WriteFault) : Type 0 where
  pub sent : ℕ
  pub stops : StopsAt contents old new text sent
  pub counted : fault ≡ WriteFailed (saturated sent)

-- a write failed somewhere inside the text
pub record Stops {W : Type 0} (contents : W → Option (List ℕ)) (old new : Watched W)
    (text : List ℕ) : Type 0 where
  pub sent : ℕ
  pub stops : StopsAt contents old new text sent

-- ---- a part of a text that is being sent; `before` and `after` count what was sent of the whole text

-- the writer took the part
pub record Sends {W : Type 0} (contents : W → Option (List ℕ)) (old new : Watched W) (before after : ℕ)
    (part : List ℕ) : Type 0 where
  pub writes : Writes contents old new part
  pub counted : after ≡ saturated (before + length part)

-- a write failed within the part, and the fault counts the bytes of the whole text that were taken before
pub record BreaksIn {W : Type 0} (contents : W → Option (List ℕ)) (old new : Watched W) (before : ℕ)
    (part : List ℕ) (fault : WriteFault) : Type 0 where
  pub sent : ℕ
  pub stops : StopsAt contents old new part sent
  pub counted : fault ≡ WriteFailed (saturated (before + sent))
