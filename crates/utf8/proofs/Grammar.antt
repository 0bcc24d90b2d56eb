-- `is_utf8` is the grammar of RFC 3629: both ways. Assumes nothing.
use mathlib.Core.Path.{◌≡◌, refl, ap, subst, ◌∙◌}
use mathlib.Core.Bool.{Bool, true, false, cond, false≢true, and-eq-true_iff}
use mathlib.Core.List.{List, [], ◌∷◌, ◌++◌}
use Prim.Native.Nat.{ℕ, suc, ◌≤◌, ◌<◌}
use native.Mathlib.Omega.{arith}
use lib.Dec.{leb}
use lib.ListN.{length, get_or}
use borrow.Author.Tests.{leb-true}
use Rattle.utf8.specs.Utf8.{Range, ◌to◌, within, rows, Next, bad, go, begins, follow, on, octets, is_utf8, Fit, end, next, Octets, none, char}
use Rattle.utf8.proofs.Rules.{agree, agree2}

-- the grammar's parse of what is left of a character, and of the characters after it
record Parts (e : List Range) (s : List ℕ) : Type 0 where
  now : List ℕ
  later : List ℕ
  fit : Fit e now
  whole : Octets later
  parts : now ++ later ≡ s

-- a row that begins with an octet
record Begun (b : ℕ) (e : List Range) (rs : List (List Range)) : Type 0 where
  i : ℕ
  r : Range
  below : i < length rs
  row : get_or rs i [] ≡ r ∷ e
  has : within r b ≡ true

later_row : {b : ℕ} {e : List Range} {rs : List (List Range)} (d : List Range) → Begun b e rs → Begun b e (d ∷ rs)
later_row d g =
    record { i = suc g.i; r = g.r; below = omega (arith, g.below); row = g.row; has = g.has }

this_row : (r : Range) (d : List Range) (rs : List (List Range)) (b : ℕ) (e : List Range) (t : Bool) → within r b ≡ t
    → (begins rs b ≡ go e → Begun b e rs) → cond t (go d) (begins rs b) ≡ go e → Begun b e ((r ∷ d) ∷ rs)
this_row r d rs b e true w k q =
    let p : d ≡ e = cc in
    record { i = 0; r = r; below = omega arith; row = ap (λ (x : List Range). r ∷ x) p; has = w }
this_row r d rs b e false w k q = later_row (r ∷ d) (k q)

begun : (rs : List (List Range)) (b : ℕ) (e : List Range) → begins rs b ≡ go e → Begun b e rs
begun [] b e q = let z : ◌≡◌ {A = ℕ} 0 1 = cc in absurd (omega arith)
begun ([] ∷ rs) b e q = later_row [] (begun rs b e q)
begun ((r ∷ d) ∷ rs) b e q = this_row r d rs b e (within r b) refl (begun rs b e) q

whole-text : (s : List ℕ) → Parts [] s → Octets s
whole-text s p = gone p.now p.fit p.parts
  where
    gone : (c : List ℕ) → Fit [] c → c ++ p.later ≡ s → Octets s
    gone [] f q = subst Octets q p.whole
    gone (_ ∷ _) f q = elim f [ ]

due_step : (r : Range) (e : List Range) (b : ℕ) (s : List ℕ) (t : Bool) → within r b ≡ t → (octets s e ≡ true → Parts e s)
    → on (cond t (go e) bad) (λ (d : List Range). octets s d) ≡ true → Parts (r ∷ e) (b ∷ s)
due_step r e b s true w k q =
    let p : Parts e s = k q in
    record { now = b ∷ p.now; later = p.later; fit = next w p.fit; whole = p.whole; parts = ap (λ (l : List ℕ). b ∷ l) p.parts }
due_step r e b s false w k q = absurd (false≢true q)

begin_step : (b : ℕ) (s : List ℕ) (n : Next) → begins rows b ≡ n → ((e : List Range) → octets s e ≡ true → Parts e s)
    → on n (λ (d : List Range). octets s d) ≡ true → Parts [] (b ∷ s)
begin_step b s bad w k q = absurd (false≢true q)
begin_step b s (go e) w k q =
    let g : Begun b e rows = begun rows b e w in
    let p : Parts e s = k e q in
    let f : Fit (get_or rows g.i []) (b ∷ p.now) = rw g.row (next g.has p.fit) in
    record {
      now = [];
      later = b ∷ s;
      fit = end;
      whole = subst (λ (l : List ℕ). Octets (b ∷ l)) p.parts (char g.i g.below f p.whole);
      parts = refl;
    }

sound_from : (s : List ℕ) (e : List Range) → octets s e ≡ true → Parts e s
sound_from [] [] q = record { now = []; later = []; fit = end; whole = none; parts = refl }
sound_from [] (r ∷ e) q = absurd (false≢true q)
sound_from (b ∷ s) [] q = begin_step b s (begins rows b) refl (λ (e : List Range). sound_from s e) q
sound_from (b ∷ s) (r ∷ e) q = due_step r e b s (within r b) refl (sound_from s e) q

pub sound : (s : List ℕ) → is_utf8 s ≡ true → Octets s
sound s q = whole-text s (sound_from s [] q)

-- the other way: the row of an octet is told by its first range
first_in : List Range → ℕ → Bool
first_in [] b = false
first_in (r ∷ e) b = within r b

top_of : List Range → ℕ
top_of [] = 0
top_of (lo to hi ∷ e) = hi

within_top : (r : Range) (e : List Range) (b : ℕ) → within r b ≡ true → b ≤ top_of (r ∷ e)
unfolding top_of
within_top (lo to hi) e b w = leb-true _ _ ((and-eq-true_iff (leb lo b) (leb b hi)).0 w).1

row_told : (i b : ℕ) → i < 9 → b < 256 → cond (first_in (get_or rows i []) b) (begins rows b) bad ≡ follow (get_or rows i []) b
unfolding first_in
row_told = agree2 (λ (i b : ℕ). cond (first_in (get_or rows i []) b) (begins rows b) bad) (λ (i b : ℕ). follow (get_or rows i []) b) 9 256 refl

row_top : (i : ℕ) → i < 9 → top_of (get_or rows i []) ≤ 255
unfolding top_of
row_top i h = leb-true _ _ (agree (λ (i : ℕ). leb (top_of (get_or rows i [])) 255) (λ (i : ℕ). true) 9 refl i h)

fit-run : {e : List Range} {c : List ℕ} (s : List ℕ) → Fit e c → octets (c ++ s) e ≡ octets s []
fit-run s end = refl
fit-run s (next w f) = rw w (fit-run s f)

char-run : (i : ℕ) → i < 9 → (e : List Range) → get_or rows i [] ≡ e → {c : List ℕ} (s : List ℕ) → Fit e c → octets (c ++ s) [] ≡ octets s []
unfolding first_in
char-run i h [] q s end = refl
char-run i h (r ∷ e) q s (next {b = b} w f) =
    let t : b < 256 = omega (arith, within_top r e b w, rw q at (row_top i h)) in
    let g : begins rows b ≡ go e = rw (q, w) at (row_told i b h t) in
    rw g (fit-run s f)

pub complete : {s : List ℕ} → Octets s → is_utf8 s ≡ true
complete none = refl
complete (char {s = s} i h f o) = char-run i h (get_or rows i []) refl s f ∙ complete o
