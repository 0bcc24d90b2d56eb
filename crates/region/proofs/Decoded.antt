-- What a forest is written down as is read back as that forest. Assumes nothing.
use mathlib.Core.Path.{◌≡◌, refl, sym, ◌∙◌}
use mathlib.Core.List.{List, [], ◌∷◌, ◌++◌, append_assoc}
use Prim.Native.Nat.{ℕ, zero, suc, ◌+◌, ◌*◌, ◌≤◌, ◌<◌}
use native.Mathlib.Omega.{arith}
use lib.ListN.{length, take, drop, length-append, length-take, length-drop, length-replicate}
use lib.Seq.{take_at, drop_at}
use Rattle.lent.specs.Numbers.{bytes}
use Rattle.lent.specs.Parts.{part}
use Rattle.lent.proofs.Digits.{be-bytes}
use Rattle.held.specs.Order.{Level}
use Rattle.held.specs.Bytes.{each}
use Rattle.held.specs.Forest.{Forest, leaf, fork}
use Rattle.region.specs.Layout.{level_units, row_units, units_f, head_bytes, level_bytes, row_bytes, unit_bytes}
use Rattle.held.specs.Ascending.{All}
use Rattle.region.specs.Forms.{Form, Fits, fork_fits}
use Rattle.region.specs.Decode.{len_of, own_of, below_of, units_to, own_place, rest_place, decode_to, decode}

pub length_head : (l : Level) (own below : ℕ) → length (head_bytes l own below) ≡ 8
unfolding head_bytes bytes
length_head l own below = refl

pub length_level : (l : Level) → 8 + length (level_bytes l) ≡ level_units l * 16
unfolding level_bytes
length_level l = rw (length-append, length-replicate) (omega arith)

module _ {X : Type 0} (u : Form X) where
  pub length-each : (v : List X) → length (each u.write v) ≡ length v * 16
  length-each [] = refl
  length-each (x ∷ v) = rw (length-append, u.long x, length-each v) (omega arith)

  pub length_row : (l : Level) (v : List X) (below : ℕ) → length (row_bytes u.write l v below) ≡ row_units l v * 16
  unfolding row_bytes
  length_row l v below = rw (length-append, length-append, length_head, length-each) (omega (arith, length_level l))

  pub length_units : (F : Forest X) → length (unit_bytes u.write F) ≡ units_f F * 16
  unfolding unit_bytes units_f
  length_units leaf = refl
  length_units (fork l v k n) = rw (length-append, length-append, length_row, length_units k, length_units n) (omega arith)

-- the head of a row
module _ (l : Level) (own below : ℕ) (rest : List ℕ) where
  pub len_read : length l < 65536 → len_of (head_bytes l own below ++ rest) ≡ length l
  unfolding head_bytes bytes part
  len_read h = be-bytes 2 (length l) h

  pub own_read : own < 65536 → own_of (head_bytes l own below ++ rest) ≡ own
  unfolding head_bytes bytes part
  own_read h = be-bytes 2 own h

  pub below-read : below < 65536 → below_of (head_bytes l own below ++ rest) ≡ below
  unfolding head_bytes bytes part
  below-read h = be-bytes 2 below h

-- the level, and what stands behind it
pub level-read : (l : Level) (own below : ℕ) (rest : List ℕ) → part 8 (length l) (head_bytes l own below ++ (level_bytes l ++ rest)) ≡ l
unfolding head_bytes level_bytes bytes part
level-read l own below rest = rw append_assoc (take_at l _ (length l) refl)

module _ {X : Type 0} (u : Form X) where
  pub units-read : (v : List X) → All u.Small v → (rest : List ℕ) → units_to u.read (length v) (each u.write v ++ rest) ≡ v
  unfolding units_to
  units-read [] a rest = refl
  units-read (x ∷ v) a rest =
      rw (append_assoc, take_at (u.write x) (each u.write v ++ rest) 16 (u.long x), drop_at (u.write x) (each u.write v ++ rest) 16 (u.long x), u.back x a.0, units-read v a.1 rest)

  -- one row in front of others
  module _ (l : Level) (v : List X) (below : ℕ) (hl : length l < 65536) (hv : length v < 65536) (hb : below < 65536) (small : All u.Small v) (rest : List ℕ) where
    shape : row_bytes u.write l v below ++ rest ≡ head_bytes l (length v) below ++ (level_bytes l ++ (each u.write v ++ rest))
    unfolding row_bytes
    shape = rw (append_assoc, append_assoc)

    pub row_len : len_of (row_bytes u.write l v below ++ rest) ≡ length l
    row_len = rw shape (len_read l (length v) below (level_bytes l ++ (each u.write v ++ rest)) hl)

    pub row_own : own_of (row_bytes u.write l v below ++ rest) ≡ length v
    row_own = rw shape (own_read l (length v) below (level_bytes l ++ (each u.write v ++ rest)) hv)

    pub row_below : below_of (row_bytes u.write l v below ++ rest) ≡ below
    row_below = rw shape (below-read l (length v) below (level_bytes l ++ (each u.write v ++ rest)) hb)

    pub row_level : part 8 (len_of (row_bytes u.write l v below ++ rest)) (row_bytes u.write l v below ++ rest) ≡ l
    row_level = rw (row_len, shape) (level-read l (length v) below (each u.write v ++ rest))

    pub row_holds : units_to u.read (own_of (row_bytes u.write l v below ++ rest)) (drop (own_place (row_bytes u.write l v below ++ rest)) (row_bytes u.write l v below ++ rest)) ≡ v
    row_holds =
        let n : length (head_bytes l (length v) below ++ level_bytes l) ≡ level_units l * 16 = rw (length-append, length_head) (length_level l) in
        let d : drop (level_units l * 16) (row_bytes u.write l v below ++ rest) ≡ each u.write v ++ rest =
        rw (shape, ← append_assoc (head_bytes l (length v) below)) (drop_at (head_bytes l (length v) below ++ level_bytes l) _ (level_units l * 16) n) in
        rw (row_own, row_len, d) (units-read v small rest)

    pub row_rest : drop (rest_place (row_bytes u.write l v below ++ rest)) (row_bytes u.write l v below ++ rest) ≡ rest
    row_rest = rw (row_len, row_own) (drop_at (row_bytes u.write l v below) rest (row_units l v * 16) (length_row u l v below))

-- a turn of the decoder
module _ {X : Type 0} (read : List ℕ → X) (m : ℕ) (w : List ℕ) where
  pub decode-none : length w ≡ 0 → decode_to read m w ≡ leaf
  unfolding decode_to
  decode-none h = go m w h
    where
      go : (m : ℕ) (w : List ℕ) → length w ≡ 0 → decode_to read m w ≡ leaf
      go zero w h = refl
      go (suc m) [] h = refl
      go (suc m) (b ∷ w) h = absurd (omega arith)

  pub decode_some : 0 < length w → decode_to read (suc m) w
      ≡ fork (part 8 (len_of w) w) (units_to read (own_of w) (drop (own_place w) w))
      (decode_to read m (take (below_of w * 16) (drop (rest_place w) w))) (decode_to read m (drop (below_of w * 16) (drop (rest_place w) w)))
  unfolding decode_to
  decode_some h = some w h
    where
      some : (w : List ℕ) → 0 < length w → decode_to read (suc m) w
          ≡ fork (part 8 (len_of w) w) (units_to read (own_of w) (drop (own_place w) w))
          (decode_to read m (take (below_of w * 16) (drop (rest_place w) w))) (decode_to read m (drop (below_of w * 16) (drop (rest_place w) w)))
      some [] h = absurd (omega arith)
      some (b ∷ w) h = refl

-- any number of turns from the length on decodes the same
module _ {X : Type 0} (read : List ℕ → X) where
  shorter : (w : List ℕ) → 0 < length w → length (drop (rest_place w) w) < length w
  shorter w h = rw length-drop (omega arith)

  enough : (m n : ℕ) (w : List ℕ) → length w ≤ m → length w ≤ n → decode_to read m w ≡ decode_to read n w
  enough zero n w p q = decode-none read 0 w (omega arith) ∙ sym (decode-none read n w (omega arith))
  enough (suc m) zero w p q = decode-none read (suc m) w (omega arith) ∙ sym (decode-none read 0 w (omega arith))
  enough (suc m) (suc n) [] p q = decode-none read (suc m) [] refl ∙ sym (decode-none read (suc n) [] refl)
  enough (suc m) (suc n) (b ∷ w) p q =
      let h = shorter (b ∷ w) (omega arith) in
      let a : length (take (below_of (b ∷ w) * 16) (drop (rest_place (b ∷ w)) (b ∷ w))) ≤ length w = rw length-take (omega arith) in
      let c : length (drop (below_of (b ∷ w) * 16) (drop (rest_place (b ∷ w)) (b ∷ w))) ≤ length w = rw (length-drop (below_of (b ∷ w) * 16)) (omega arith) in
      decode_some read m (b ∷ w) (omega arith)
      ∙ rw (enough m n (take (below_of (b ∷ w) * 16) (drop (rest_place (b ∷ w)) (b ∷ w))) (omega arith) (omega arith), enough m n (drop (below_of (b ∷ w) * 16) (drop (rest_place (b ∷ w)) (b ∷ w))) (omega arith) (omega arith))
      (sym (decode_some read n (b ∷ w) (omega arith)))

  -- one row off the front
  pub decode_step : (w : List ℕ) → 0 < length w → decode read w
      ≡ fork (part 8 (len_of w) w) (units_to read (own_of w) (drop (own_place w) w))
      (decode read (take (below_of w * 16) (drop (rest_place w) w))) (decode read (drop (below_of w * 16) (drop (rest_place w) w)))
  unfolding decode
  decode_step [] h = absurd (omega arith)
  decode_step (b ∷ w) h =
      let g = shorter (b ∷ w) h in
      let a : length (take (below_of (b ∷ w) * 16) (drop (rest_place (b ∷ w)) (b ∷ w))) ≤ length w = rw length-take (omega arith) in
      let c : length (drop (below_of (b ∷ w) * 16) (drop (rest_place (b ∷ w)) (b ∷ w))) ≤ length w = rw (length-drop (below_of (b ∷ w) * 16)) (omega arith) in
      decode_some read (length w) (b ∷ w) h
      ∙ rw (
        enough (length w) (length (take (below_of (b ∷ w) * 16) (drop (rest_place (b ∷ w)) (b ∷ w)))) (take (below_of (b ∷ w) * 16) (drop (rest_place (b ∷ w)) (b ∷ w))) a (omega arith),
        enough (length w) (length (drop (below_of (b ∷ w) * 16) (drop (rest_place (b ∷ w)) (b ∷ w)))) (drop (below_of (b ∷ w) * 16) (drop (rest_place (b ∷ w)) (b ∷ w))) c (omega arith),
      )

-- what was written down is read back
module _ {X : Type 0} (u : Form X) where
  some_units : (l : Level) (v : List X) → 0 < row_units l v
  some_units l v = omega arith

  decode_from : (F : Forest X) → Fits u.Small F → (m : ℕ) → units_f F ≤ m → decode_to u.read m (unit_bytes u.write F) ≡ F
  unfolding unit_bytes units_f
  decode_from leaf f m h = decode-none u.read m [] refl
  decode_from (fork l v k n) (fork_fits hl hv hk small fk fn) zero h = absurd (omega (arith, some_units l v))
  decode_from (fork l v k n) (fork_fits hl hv hk small fk fn) (suc m) h =
      let long : 0 < length (row_bytes u.write l v (units_f k) ++ (unit_bytes u.write k ++ unit_bytes u.write n)) =
      rw (length-append, length_row u l v (units_f k)) (omega (arith, some_units l v)) in
      let p = some_units l v in
      decode_some u.read m (row_bytes u.write l v (units_f k) ++ (unit_bytes u.write k ++ unit_bytes u.write n)) long
      ∙ rw (
        row_level u l v (units_f k) hl hv hk small (unit_bytes u.write k ++ unit_bytes u.write n),
        row_holds u l v (units_f k) hl hv hk small (unit_bytes u.write k ++ unit_bytes u.write n),
        row_rest u l v (units_f k) hl hv hk small (unit_bytes u.write k ++ unit_bytes u.write n),
        row_below u l v (units_f k) hl hv hk small (unit_bytes u.write k ++ unit_bytes u.write n),
        take_at (unit_bytes u.write k) (unit_bytes u.write n) (units_f k * 16) (length_units u k),
        drop_at (unit_bytes u.write k) (unit_bytes u.write n) (units_f k * 16) (length_units u k),
        decode_from k fk m (omega arith),
        decode_from n fn m (omega arith),
      )

  pub decode_units : (F : Forest X) → Fits u.Small F → decode u.read (unit_bytes u.write F) ≡ F
  unfolding decode
  decode_units F f = decode_from F f (length (unit_bytes u.write F)) (rw (length_units u F) (omega arith))
