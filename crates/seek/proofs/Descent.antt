-- The way down along the levels of a text: what each turn has found, and what is left. Assumes nothing.
use Rattle.std.specs.Prelude.{Result, Ok, Err}
use mathlib.Core.Path.{◌≡◌, refl, sym, ap, ◌∙◌}
use mathlib.Core.List.{List, [], ◌∷◌, ◌++◌, append_assoc, append-nil}
use mathlib.Core.Logic.{⊎_elim}
use Prim.Native.Nat.{ℕ, ◌+◌, ◌-◌, ◌≤◌, ◌<◌, max}
use native.Mathlib.Numerals.{add-one}
use native.Mathlib.Omega.{arith}
use lib.ListN.{length, take, drop, get_or, set, length-set}
use lib.Seq.{take-suc-set, get_or-set_same, get_or-set_other}
use Rattle.lent.proofs.Anywhere.{lt-or_ge}
use Rattle.level.specs.Levels.{split}
use Rattle.level.specs.Places.{levels_at, end_of}
use Rattle.level.proofs.Split.{levels_cons, levels-none, end-within, part-first}
use Rattle.held.specs.Order.{Level, Filter}
use Rattle.held.specs.Forest.{Forest}
use Rattle.held.specs.Walks.{miss, hit, kid}
use Rattle.held.specs.Edit.{missing}
use Rattle.region.specs.Layout.{row_units}
use Rattle.forest.specs.Stands.{raw_in, RawStands}
use Rattle.forest.specs.Paths.{seek_at, nodes_at, spot_at}
use Rattle.seek.specs.declared.Child.{Child}
use Rattle.seek.specs.Child.{child_at, child_of, Inside}
use Rattle.seek.specs.PathFound.{PathOf, PathFound}
use Rattle.seek.proofs.Found.{FoundAt, found_at, missed_in}

-- a level that begins within a text ends there
pub end_in : (text : List ℕ) (from : ℕ) {end : ℕ} → from ≤ length text → end ≡ end_of text from → end ≤ length text
end_in text from h e = rw e (end-within text from h)

-- a level of a path, by what a row has of it
module _ {X : Type 0} (g : Level) (gs : Filter) (at : ℕ) (F : Forest X) where
  module _ (v : List X) (k : Forest X) (e : kid g F ≡ hit v k) where
    pub nodes_hit : nodes_at (g ∷ gs) at F ≡ seek_at g at F ∷ nodes_at gs (seek_at g at F + row_units g v) k
    unfolding nodes_at
    nodes_hit = rw e

    pub spot_hit : spot_at (g ∷ gs) at F ≡ spot_at gs (seek_at g at F + row_units g v) k
    unfolding spot_at
    spot_hit = rw e

    pub missing_hit : missing (g ∷ gs) F ≡ missing gs k
    unfolding missing
    missing_hit = rw e

  module _ (e : kid g F ≡ miss) where
    pub nodes_miss : nodes_at (g ∷ gs) at F ≡ []
    unfolding nodes_at
    nodes_miss = rw e

    pub spot_miss : spot_at (g ∷ gs) at F ≡ seek_at g at F
    unfolding spot_at
    spot_miss = rw e

    pub missing_miss : missing (g ∷ gs) F ≡ g ∷ gs
    unfolding missing
    missing_miss = rw e

-- the end of a path
module _ {X : Type 0} (at : ℕ) (F : Forest X) where
  pub nodes_end : nodes_at [] at F ≡ []
  unfolding nodes_at
  nodes_end = refl

  pub spot_end : spot_at [] at F ≡ at
  unfolding spot_at
  spot_end = refl

  pub missing_end : missing [] F ≡ []
  unfolding missing
  missing_end = refl

-- where a forest stands: what is left of the path is found from the units lo up to hi as the whole is from the top
pub record Down (base : ℕ) (s : List ℕ) (n : ℕ) (text nodes : List ℕ) (depth lo hi from : ℕ) : Type 0 where
  pub stands : RawStands base s (depth + 1) lo hi
  pub nodes_are : nodes_at (split text) 0 (raw_in base s 0 n) ≡ take depth nodes ++ nodes_at (levels_at text from) lo (raw_in base s lo hi)
  pub spot_is : spot_at (split text) 0 (raw_in base s 0 n) ≡ spot_at (levels_at text from) lo (raw_in base s lo hi)
  pub rest_is : missing (split text) (raw_in base s 0 n) ≡ missing (levels_at text from) (raw_in base s lo hi)

-- whatever the bytes are
pub record Going (base : ℕ) (s : List ℕ) (n : ℕ) (text nodes : List ℕ) (depth lo hi from : ℕ) : Type 0 where
  pub few : depth ≤ 128
  pub room : length nodes ≡ 128
  pub low : lo ≤ hi
  pub high : hi ≤ n
  pub text_in : from ≤ length text + 1
  pub count : depth + length (levels_at text from) ≡ length (split text)
  pub nodes_in : (j : ℕ) → j < depth → get_or nodes j 0 < n
  pub down : RawStands base s 1 0 n → Down base s n text nodes depth lo hi from

pub going_top : (base : ℕ) (s : List ℕ) (n : ℕ) (text nodes : List ℕ) → length nodes ≡ 128 → Going base s n text nodes 0 0 n 0
going_top base s n text nodes h =
    record {
      few = omega arith;
      room = h;
      low = omega arith;
      high = omega arith;
      text_in = omega arith;
      count = omega arith;
      nodes_in = λ j l. absurd (omega arith);
      down = λ w. record { stands = w; nodes_are = refl; spot_is = refl; rest_is = refl };
    }

module _ (base : ℕ) (s : List ℕ) (n : ℕ) (text nodes : List ℕ) (depth lo hi from : ℕ) (k : Going base s n text nodes depth lo hi from) where
  done : levels_at text from ≡ [] → RawStands base s 1 0 n → PathOf (raw_in base s 0 n) text (record { nodes = nodes; depth = depth; place = lo; from = from })
  done e w =
      let f = k.down w in
      record {
        nodes_are = sym (f.nodes_are ∙ rw (e, nodes_end lo (raw_in base s lo hi)) (append-nil (take depth nodes)));
        place_is = sym (f.spot_is ∙ rw e (spot_end lo (raw_in base s lo hi)));
        rest_is = sym (f.rest_is ∙ rw e (missing_end lo (raw_in base s lo hi)));
      }

  ended : (length (split text) ≤ 128 → levels_at text from ≡ [])
      → PathFound base s n text (record { nodes = nodes; depth = depth; place = lo; from = from })
  ended e =
      record {
        few = k.few;
        place_in = omega (arith, k.low, k.high);
        from_in = k.text_in;
        count = k.count;
        nodes_in = k.nodes_in;
        stands = λ w h. done (e h) w;
      }

  pub path_end : length text < from → PathFound base s n text (record { nodes = nodes; depth = depth; place = lo; from = from })
  path_end h = ended (λ l. levels-none text from h)

  pub path_full : 128 ≤ depth → PathFound base s n text (record { nodes = nodes; depth = depth; place = lo; from = from })
  path_full h = ended (λ l. none (levels_at text from) (omega (arith, k.count)))
    where
      none : (ls : Filter) → length ls ≡ 0 → ls ≡ []
      none [] e = refl
      none (l ∷ ls) e = absurd (omega arith)

  -- the child with the next level
  module _ (end : ℕ) (v : Result Child ℕ) (within : from ≤ length text) (ends : end ≡ end_of text from)
      (answer : RawStands base s (depth + 1) lo hi → v ≡ child_of (take (end - from) (drop from text)) lo (raw_in base s lo hi)) (inside : Inside lo hi v) where
    g : Level
    g = take (end - from) (drop from text)

    next : ℕ
    next = end + 1

    levels : levels_at text from ≡ g ∷ levels_at text next
    unfolding g next
    levels = levels_cons text from within ∙ rw (ends, part-first text from, add-one)

    pub path-missing : (i : ℕ) → v ≡ Err i → PathFound base s n text (record { nodes = nodes; depth = depth; place = i; from = from })
    unfolding g
    path-missing i q =
        let b : (lo ≤ i) × (i ≤ max lo hi) = rw q at inside in
        record {
          few = k.few;
          place_in = omega (arith, b.1, k.low, k.high);
          from_in = k.text_in;
          count = k.count;
          nodes_in = k.nodes_in;
          stands = λ w h.
              let f = k.down w in
              let m = missed_in g lo (raw_in base s lo hi) i (sym q ∙ answer f.stands) in
              let F = raw_in base s lo hi in
              record {
                nodes_are = sym (f.nodes_are ∙ rw (levels, nodes_miss g (levels_at text next) lo F m.missed) (append-nil (take depth nodes)));
                place_is = sym (f.spot_is ∙ rw levels (spot_miss g (levels_at text next) lo F m.missed ∙ m.place));
                rest_is = sym (f.rest_is ∙ rw levels (missing_miss g (levels_at text next) lo F m.missed));
              };
        }

    in_next : (i : ℕ) → depth < length nodes → i < n → (j : ℕ) → j < depth + 1 → get_or (set nodes depth i) j 0 < n
    in_next i h b j l =
        ⊎_elim
        (λ (z : j < depth). rw (get_or-set_other nodes depth j i 0 (λ (y : j ≡ depth). absurd (omega arith))) (k.nodes_in j z))
        (λ (z : depth ≤ j). let y : j ≡ depth = omega arith in rw (y, get_or-set_same nodes depth i 0 h) b)
        (lt-or_ge j depth)

    module _ (i e p : ℕ) (u : FoundAt base s g (depth + 1) lo hi i e p) (h : depth < length nodes) where
      nodes_next : take depth nodes ++ nodes_at (levels_at text from) lo (raw_in base s lo hi) ≡ take (depth + 1) (set nodes depth i) ++ nodes_at (levels_at text next) e (raw_in base s e p)
      nodes_next =
          let l : take (depth + 1) (set nodes depth i) ≡ take depth nodes ++ (i ∷ []) = rw add-one (take-suc-set nodes depth i h) in
          rw (l, levels, nodes_hit g (levels_at text next) lo (raw_in base s lo hi) u.own (raw_in base s e p) u.found, u.place, ← u.end)
          (sym (append_assoc (take depth nodes) (i ∷ []) (nodes_at (levels_at text next) e (raw_in base s e p))))

      spot_next : spot_at (levels_at text from) lo (raw_in base s lo hi) ≡ spot_at (levels_at text next) e (raw_in base s e p)
      spot_next = rw (levels, spot_hit g (levels_at text next) lo (raw_in base s lo hi) u.own (raw_in base s e p) u.found, u.place, ← u.end)

      rest_next : missing (levels_at text from) (raw_in base s lo hi) ≡ missing (levels_at text next) (raw_in base s e p)
      rest_next = rw levels (missing_hit g (levels_at text next) lo (raw_in base s lo hi) u.own (raw_in base s e p) u.found)

    pub going_next : (i e p : ℕ) → v ≡ child_at i e p → depth < 128 → Going base s n text (set nodes depth i) (depth + 1) e p (end + 1)
    unfolding g next
    going_next i e p q h =
        let b : (lo ≤ i) × (i < e) × (e ≤ p) × (p ≤ hi) = rw q at inside in
        let l : depth < length nodes = omega (arith, k.room) in
        record {
          few = omega arith;
          room = rw length-set k.room;
          low = b.2;
          high = omega (arith, b.3, k.high);
          text_in = omega (arith, end-within text from within);
          count = omega (arith, k.count, ap length levels);
          nodes_in = in_next i l (omega (arith, b.1, b.2, b.3, k.high));
          down = λ w.
              let f = k.down w in
              let u = found_at base s g (depth + 1) lo hi f.stands i e p (sym q ∙ answer f.stands) in
              record {
                stands = u.kids;
                nodes_are = f.nodes_are ∙ nodes_next i e p u l;
                spot_is = f.spot_is ∙ spot_next i e p u l;
                rest_is = f.rest_is ∙ rest_next i e p u l;
              };
        }
