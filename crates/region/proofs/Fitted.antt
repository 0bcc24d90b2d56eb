-- A forest that is read back from what it is written down as has numbers that fit. Assumes nothing.
use mathlib.Core.Path.{◌≡◌, refl, sym, ap, ◌∙◌}
use mathlib.Core.List.{List, [], ◌∷◌, ◌++◌, append_assoc}
use Prim.Native.Nat.{ℕ, zero, suc, ◌*◌, ◌%◌, ◌≤◌, ◌<◌}
use native.Mathlib.Omega.{arith}
use lib.ListN.{length, take, drop, length-append, length-take}
use lib.Seq.{take_at, drop_at}
use Rattle.lent.specs.Numbers.{bytes, be}
use Rattle.lent.specs.Parts.{part}
use Rattle.lent.proofs.Parts.{part-eq}
use Rattle.lent.proofs.Digits.{be-bytes, bytes_mod}
use Rattle.held.specs.Order.{Level}
use Rattle.held.specs.Ascending.{All}
use Rattle.held.specs.Bytes.{each}
use Rattle.held.specs.Forest.{Forest, leaf, fork}
use Rattle.region.specs.Layout.{level_units, row_units, units_f, head_bytes, level_bytes, row_bytes, unit_bytes}
use Rattle.region.specs.Forms.{Form, Fits, leaf_fits, fork_fits}
use Rattle.region.specs.Decode.{len_of, own_of, below_of, units_to, own_place, rest_place, decode}
use Rattle.region.proofs.Decoded.{length_head, length_level, length_row, length_units, len_read, own_read, below-read, decode_step}

-- the parts of two nodes that are the same
module _ {X : Type 0} {a b : Level} {v w : List X} {k l m n : Forest X} (e : fork a v k m ≡ fork b w l n) where
  same_level : a ≡ b
  same_level = cc

  same_own : v ≡ w
  same_own = cc

  same_kids : k ≡ l
  same_kids = cc

  same_next : m ≡ n
  same_next = cc

-- the numbers of a head, whatever was written there
two_small : (x : ℕ) → be (bytes 2 x) < 65536
two_small x = let e : be (bytes 2 x) ≡ x % 65536 = ap be (sym (bytes_mod 2 x)) ∙ be-bytes 2 (x % 65536) (omega arith) in omega (arith, e)

module _ (l : Level) (own below : ℕ) (rest : List ℕ) where
  len_small : len_of (head_bytes l own below ++ rest) < 65536
  unfolding head_bytes bytes part
  len_small = two_small (length l)

  own_small : own_of (head_bytes l own below ++ rest) < 65536
  unfolding head_bytes bytes part
  own_small = two_small own

length_to : {X : Type 0} (read : List ℕ → X) (n : ℕ) (w : List ℕ) → length (units_to read n w) ≡ n
unfolding units_to
length_to read zero w = refl
length_to read (suc n) w = ap suc (length_to read n (drop 16 w))

module _ {X : Type 0} (u : Form X) (back : (x : X) → u.read (u.write x) ≡ x → u.Small x) where
  units_small : (v : List X) (rest : List ℕ) → units_to u.read (length v) (each u.write v ++ rest) ≡ v → All u.Small v
  unfolding units_to
  units_small [] rest e = tt
  units_small (x ∷ v) rest e =
      let a : take 16 (u.write x ++ (each u.write v ++ rest)) ≡ u.write x = take_at (u.write x) (each u.write v ++ rest) 16 (u.long x) in
      let b : drop 16 (u.write x ++ (each u.write v ++ rest)) ≡ each u.write v ++ rest = drop_at (u.write x) (each u.write v ++ rest) 16 (u.long x) in
      let f : u.read (u.write x) ∷ units_to u.read (length v) (each u.write v ++ rest) ≡ x ∷ v = rw (append_assoc, a, b) at e in
      let g : u.read (u.write x) ≡ x = cc in
      let h : units_to u.read (length v) (each u.write v ++ rest) ≡ v = cc in
      (back x g, units_small v rest h)

  -- one row
  module _ (l : Level) (v : List X) (k n : Forest X) where
    abbrev w : List ℕ
    w = row_bytes u.write l v (units_f k) ++ (unit_bytes u.write k ++ unit_bytes u.write n)

    abbrev behind : List ℕ
    behind = unit_bytes u.write k ++ unit_bytes u.write n

    shape : w ≡ head_bytes l (length v) (units_f k) ++ (level_bytes l ++ (each u.write v ++ behind))
    unfolding row_bytes
    shape = rw (append_assoc, append_assoc)

    module _ (small : units_f k < 65536) (e : decode u.read w ≡ fork l v k n) where
      some : 0 < length w
      some = rw (length-append, length_row u l v (units_f k)) (omega arith)

      step : fork (part 8 (len_of w) w) (units_to u.read (own_of w) (drop (own_place w) w)) (decode u.read (take (below_of w * 16) (drop (rest_place w) w))) (decode u.read (drop (below_of w * 16) (drop (rest_place w) w)))
          ≡ fork l v k n
      step = sym (decode_step u.read w some) ∙ e

      level-fits : length l < 65536
      level-fits =
          let a : part 8 (len_of w) w ≡ l = same_level step in
          let b : length (part 8 (len_of w) w) ≤ len_of w = rw (part-eq, length-take) (omega arith) in
          omega (arith, ap length a, b, ap len_of shape, len_small l (length v) (units_f k) (level_bytes l ++ (each u.write v ++ behind)))

      own-fits : length v < 65536
      own-fits =
          let a : units_to u.read (own_of w) (drop (own_place w) w) ≡ v = same_own step in
          omega (arith, ap length a, length_to u.read (own_of w) (drop (own_place w) w), ap own_of shape, own_small l (length v) (units_f k) (level_bytes l ++ (each u.write v ++ behind)))

      len_is : len_of w ≡ length l
      len_is = ap len_of shape ∙ len_read l (length v) (units_f k) (level_bytes l ++ (each u.write v ++ behind)) level-fits

      own_is : own_of w ≡ length v
      own_is = ap own_of shape ∙ own_read l (length v) (units_f k) (level_bytes l ++ (each u.write v ++ behind)) own-fits

      below_is : below_of w ≡ units_f k
      below_is = ap below_of shape ∙ below-read l (length v) (units_f k) (level_bytes l ++ (each u.write v ++ behind)) small

      holds_is : drop (own_place w) w ≡ each u.write v ++ behind
      holds_is =
          let m : length (head_bytes l (length v) (units_f k) ++ level_bytes l) ≡ level_units l * 16 = rw (length-append, length_head) (length_level l) in
          rw (len_is, shape, ← append_assoc (head_bytes l (length v) (units_f k))) (drop_at (head_bytes l (length v) (units_f k) ++ level_bytes l) (each u.write v ++ behind) (level_units l * 16) m)

      rest_is : drop (rest_place w) w ≡ behind
      rest_is = rw (len_is, own_is) (drop_at (row_bytes u.write l v (units_f k)) behind (row_units l v * 16) (length_row u l v (units_f k)))

      values_fit : All u.Small v
      values_fit = units_small v behind (rw (own_is, holds_is) at (same_own step))

      kids_back : decode u.read (unit_bytes u.write k) ≡ k
      kids_back = rw (below_is, rest_is, take_at (unit_bytes u.write k) (unit_bytes u.write n) (units_f k * 16) (length_units u k)) at (same_kids step)

      next_back : decode u.read (unit_bytes u.write n) ≡ n
      next_back = rw (below_is, rest_is, drop_at (unit_bytes u.write k) (unit_bytes u.write n) (units_f k * 16) (length_units u k)) at (same_next step)

  pub fits_back : (F : Forest X) → units_f F < 65536 → decode u.read (unit_bytes u.write F) ≡ F → Fits u.Small F
  unfolding unit_bytes units_f
  fits_back leaf h e = leaf_fits
  fits_back (fork l v k n) h e =
      let s : units_f k < 65536 = omega (arith, h) in
      fork_fits {k = k} (level-fits l v k n s e) (own-fits l v k n s e) s (values_fit l v k n s e)
      (fits_back k s (kids_back l v k n s e)) (fits_back n (omega (arith, h)) (next_back l v k n s e))
