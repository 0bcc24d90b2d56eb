-- Records can be read back from their bytes, so the bytes settle a listing, a lookup and a page. Assumes nothing.
use mathlib.Core.Path.{◌≡◌, refl, sym, ap, ◌∙◌}
use Prim.Native.Nat.{ℕ, zero, suc, ◌+◌, ◌^◌, ◌≤◌, ◌<◌}
use mathlib.Core.Bool.{true}
use mathlib.Core.List.{List, [], ◌∷◌, ◌++◌, map, append_assoc}
use lib.ListN.{length, take, drop}
use lib.Seq.{take_at, drop_at}
use native.Mathlib.Omega.{arith}
use Rattle.lent.proofs.Digits.{length-bytes, be-bytes}
use Rattle.lent.specs.Numbers.{bytes, be}
use Rattle.level.specs.Levels.{split, join}
use Rattle.held.specs.Ascending.{All}
use Rattle.held.specs.Order.{Filter}
use Rattle.held.specs.Room.{Room, in_range}
use Rattle.held.specs.History.{run}
use Rattle.held.specs.Bytes.{each}
use Rattle.held.specs.Subscriptions.{Pair, Call, subscriptions, listing, listing_record, listing_bytes}
use Rattle.held.specs.Retained.{Named, left, name_record}
use Rattle.held.specs.Sized.{SizedRecord, SizedName}
use Rattle.held.proofs.Bounds.{listing_sized, SmallCall, run_sized, run-within, left-fits}

-- Reading

-- a number of w bytes at the front, and what follows it
abbrev number : ℕ → List ℕ → ℕ
number w s = be (take w s)

-- n values of 4 bytes, and what follows them
abbrev read_values : ℕ → List ℕ → List ℕ × List ℕ
read_values zero s = ([], s)
read_values (suc n) s = let r = read_values n (drop 4 s) in (number 4 s ∷ r.0, r.1)

-- the record at the front: its text, its values, and what follows it
abbrev read_text : List ℕ → List ℕ
read_text s = take (number 2 (drop 2 s)) (drop 4 s)

abbrev after_text : List ℕ → List ℕ
after_text s = drop (number 2 (drop 2 s)) (drop 4 s)

abbrev read_rest : List ℕ → List ℕ × List ℕ
read_rest s = read_values (number 2 (after_text s)) (drop 2 (after_text s))

-- at most k records
abbrev pub read_listing : ℕ → List ℕ → List (Filter × List ℕ)
read_listing zero s = []
read_listing (suc k) [] = []
read_listing (suc k) (b ∷ s) = (split (read_text (b ∷ s)), (read_rest (b ∷ s)).0) ∷ read_listing k (read_rest (b ∷ s)).1

number_front : (w v : ℕ) (s : List ℕ) → v < 256 ^ w → number w (bytes w v ++ s) ≡ v
number_front w v s h = rw (take_at (bytes w v) s w (length-bytes w v)) (be-bytes w v h)

after_number : (w v : ℕ) (s : List ℕ) → drop w (bytes w v ++ s) ≡ s
after_number w v s = drop_at (bytes w v) s w (length-bytes w v)

values_back : (vs s : List ℕ) → All (λ v. v < 4294967296) vs → read_values (length vs) (each (bytes 4) vs ++ s) ≡ (vs, s)
values_back [] s a = refl
values_back (v ∷ vs) s a =
    rw (append_assoc (bytes 4 v) (each (bytes 4) vs) s, number_front 4 v (each (bytes 4) vs ++ s) a.0, after_number 4 v (each (bytes 4) vs ++ s), values_back vs s a.1)

-- a record's text, after two bytes and its length
module _ (a b : ℕ) (text rest s : List ℕ) (laid : s ≡ a ∷ b ∷ (bytes 2 (length text) ++ (text ++ rest))) (short : length text ≤ 65535) where
  long : number 2 (drop 2 s) ≡ length text
  long = ap (λ (l : List ℕ). number 2 (drop 2 l)) laid ∙ number_front 2 (length text) (text ++ rest) (omega arith)

  behind : drop 4 s ≡ text ++ rest
  behind = ap (drop 4) laid ∙ after_number 2 (length text) (text ++ rest)

  text_at : (read_text s ≡ text) × (after_text s ≡ rest)
  text_at = (rw (long, behind) (take_at text rest (length text) refl), rw (long, behind) (drop_at text rest (length text) refl))

module _ (r : Filter × List ℕ) (sized : SizedRecord r) (s : List ℕ) where
  abbrev values : List ℕ
  values = bytes 2 (length r.1) ++ (each (bytes 4) r.1 ++ s)

  record_laid : listing_record r ++ s ≡ 0x46 ∷ 0x4D ∷ (bytes 2 (length (join r.0)) ++ (join r.0 ++ values))
  unfolding listing_record
  record_laid = simp append_assoc

  record_back : (read_text (listing_record r ++ s) ≡ join r.0) × (after_text (listing_record r ++ s) ≡ values)
  record_back = text_at 0x46 0x4D (join r.0) values (listing_record r ++ s) record_laid sized.text.short

  text_back : read_text (listing_record r ++ s) ≡ join r.0
  text_back = record_back.0

  rest_back : read_rest (listing_record r ++ s) ≡ (r.1, s)
  rest_back =
      rw (record_back.1, number_front 2 (length r.1) (each (bytes 4) r.1 ++ s) sized.many, after_number 2 (length r.1) (each (bytes 4) r.1 ++ s))
      (values_back r.1 s sized.values)

-- the records are read back
read_step : (k : ℕ) (s : List ℕ) → (s ≡ [] → ⊥) → read_listing (suc k) s ≡ (split (read_text s), (read_rest s).0) ∷ read_listing k (read_rest s).1
read_step k [] h = absurd (h refl)
read_step k (b ∷ s) h = refl

some_record : (r : Filter × List ℕ) (s : List ℕ) → listing_record r ++ s ≡ [] → ⊥
unfolding listing_record
some_record r s e = let z : ◌≡◌ {A = ℕ} 0 1 = cc in omega arith

-- whatever number k of records, not less than there are, is asked for
pub listing-read : (k : ℕ) (rs : List (Filter × List ℕ)) → length rs ≤ k → All SizedRecord rs → read_listing k (each listing_record rs) ≡ rs
listing-read zero [] h a = refl
listing-read zero (r ∷ rs) h a = absurd (omega arith)
listing-read (suc k) [] h a = refl
listing-read (suc k) (r ∷ rs) h a =
    let s : List ℕ = each listing_record rs in
    read_step k (listing_record r ++ s) (some_record r s)
    ∙ rw (text_back r a.0 s, rest_back r a.0 s, a.0.text.levels, listing-read k rs (omega arith) a.1)

-- so the bytes settle the listing
pub listing_settled : (rs ss : List (Filter × List ℕ)) → All SizedRecord rs → All SizedRecord ss → each listing_record rs ≡ each listing_record ss → rs ≡ ss
listing_settled rs ss a b e =
    sym (listing-read (length rs + length ss) rs (omega arith) a) ∙ ap (read_listing (length rs + length ss)) e ∙ listing-read (length rs + length ss) ss (omega arith) b

-- after any history of values below 2^32, in a store with capacities in range
pub run-read : (r : Room) (cs : List Call) → in_range r ≡ true → All SmallCall cs
    → (n : Filter) (k : ℕ) → let h : List Pair = run subscriptions r cs [] in length (listing n h) ≤ k → read_listing k (listing_bytes n h) ≡ listing n h
unfolding listing_bytes
run-read r cs i q n k l =
    let h : List Pair = run subscriptions r cs [] in
    listing-read k (listing n h) l (listing_sized h (run_sized r cs q) (run-within r cs i) n)

-- The retained records: the name, the handle and the remaining time
abbrev Shown : Type 0
Shown = Filter × (ℕ × ℕ)

abbrev pub shown : ℕ → Named → Shown
shown now e = (e.0, (e.1.handle, left now e.1.moment))

abbrev pub read_names : ℕ → List ℕ → List Shown
read_names zero s = []
read_names (suc k) [] = []
read_names (suc k) (b ∷ s) =
    (split (read_text (b ∷ s)), (number 4 (after_text (b ∷ s)), number 8 (drop 4 (after_text (b ∷ s))))) ∷ read_names k (drop 8 (drop 4 (after_text (b ∷ s))))

module _ (now : ℕ) (e : Named) (sized : SizedName e) (s : List ℕ) where
  abbrev name : List ℕ
  name = join e.0

  abbrev numbers : List ℕ
  numbers = bytes 4 e.1.handle ++ (bytes 8 (left now e.1.moment) ++ s)

  name_laid : name_record now e ++ s ≡ 0x52 ∷ 0x56 ∷ (bytes 2 (length name) ++ (name ++ numbers))
  unfolding name_record
  name_laid = simp append_assoc

  name_back : (read_text (name_record now e ++ s) ≡ name) × (after_text (name_record now e ++ s) ≡ numbers)
  name_back = text_at 0x52 0x56 name numbers (name_record now e ++ s) name_laid sized.text.short

  handle_back : number 4 numbers ≡ e.1.handle
  handle_back = number_front 4 e.1.handle (bytes 8 (left now e.1.moment) ++ s) sized.small.handle

  left_back : drop 4 numbers ≡ bytes 8 (left now e.1.moment) ++ s
  left_back = after_number 4 e.1.handle (bytes 8 (left now e.1.moment) ++ s)

  name_some : name_record now e ++ s ≡ [] → ⊥
  unfolding name_record
  name_some q = let z : ◌≡◌ {A = ℕ} 0 1 = cc in omega arith

names_step : (k : ℕ) (s : List ℕ) → (s ≡ [] → ⊥)
    → read_names (suc k) s ≡ (split (read_text s), (number 4 (after_text s), number 8 (drop 4 (after_text s)))) ∷ read_names k (drop 8 (drop 4 (after_text s)))
names_step k [] h = absurd (h refl)
names_step k (b ∷ s) h = refl

pub names-read : (now k : ℕ) (es : List Named) → length es ≤ k → All SizedName es → read_names k (each (name_record now) es) ≡ map (shown now) es
names-read now zero [] h a = refl
names-read now zero (e ∷ es) h a = absurd (omega arith)
names-read now (suc k) [] h a = refl
names-read now (suc k) (e ∷ es) h a =
    let s : List ℕ = each (name_record now) es in
    let t = name_back now e a.0 s in
    let m : ℕ = left now e.1.moment in
    names_step k (name_record now e ++ s) (name_some now e a.0 s)
    ∙ rw (t.0, t.1, handle_back now e a.0 s, left_back now e a.0 s, number_front 8 m s (left-fits now e.1.moment a.0.small.moment), after_number 8 m s, a.0.text.levels, names-read now k es (omega arith) a.1)
