-- What a node holds, in a unit: values, and the records of names. Assumes nothing.
use mathlib.Core.Path.{◌≡◌, refl}
use mathlib.Core.List.{List, ◌++◌}
use mathlib.Core.Option.{Option, none, some}
use Prim.Native.Nat.{ℕ, ◌^◌, ◌<◌}
use lib.ListN.{length, replicate, length-append, length-take, length-replicate}
use lib.Seq.{take_at}
use native.Mathlib.Omega.{arith}
use Rattle.lent.specs.Numbers.{bytes}
use Rattle.lent.specs.Parts.{part}
use Rattle.lent.proofs.Digits.{be-bytes}
use Rattle.held.specs.Retained.{Stored}
use Rattle.held.specs.Sized.{SmallStored}
use Rattle.region.specs.Units.{value_bytes, value_of, moment_bytes, stored_bytes, stored_of}
use Rattle.region.specs.Forms.{Form, whole, Whole}

pub value_long : (v : ℕ) → length (value_bytes v) ≡ 16
unfolding value_bytes bytes
value_long v = refl

pub value_back : (v : ℕ) → v < 256 ^ 4 → value_of (value_bytes v) ≡ v
unfolding value_bytes value_of bytes part
value_back v h = be-bytes 4 v h

abbrev pub values : Form ℕ
values = record { write = value_bytes; read = value_of; Small = λ v. v < 256 ^ 4; long = value_long; back = value_back }

moment_long : (h : ℕ) (m : Option ℕ) → length (bytes 4 h ++ moment_bytes m) ≡ 16
unfolding bytes
moment_long h none = refl
moment_long h (some m) = refl

moment_back : (h : ℕ) (m : Option ℕ) → SmallStored (record { handle = h; moment = m })
    → ◌≡◌ {A = Stored} (stored_of (bytes 4 h ++ moment_bytes m)) (record { handle = h; moment = m })
unfolding stored_of bytes part
moment_back h none f = rw (be-bytes 4 h f.handle)
moment_back h (some m) f = rw (be-bytes 4 h f.handle, be-bytes 8 m (f.moment m refl))

pub stored_long : (s : Stored) → length (stored_bytes s) ≡ 16
unfolding stored_bytes
stored_long s = moment_long s.handle s.moment

pub stored_back : (s : Stored) → SmallStored s → stored_of (stored_bytes s) ≡ s
unfolding stored_bytes
stored_back s f = moment_back s.handle s.moment f

abbrev pub records : Form Stored
records = record { write = stored_bytes; read = stored_of; Small = SmallStored; long = stored_long; back = stored_back }

-- a unit as it stands
pub whole_long : (w : List ℕ) → length (whole w) ≡ 16
unfolding whole
whole_long w = rw (length-take, length-append, length-replicate) (omega arith)

pub whole_back : (w : List ℕ) → length w ≡ 16 → whole w ≡ w
unfolding whole
whole_back w h = take_at w (replicate 16 0) 16 h

abbrev pub wholes : Form (List ℕ)
wholes = record { write = whole; read = λ w. w; Small = Whole; long = whole_long; back = whole_back }
