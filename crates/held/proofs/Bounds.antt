-- The numbers of a record fit their bytes: bounds that every history keeps. Assumes nothing.
use Rattle.std.specs.Prelude.{Err, Ok, Result, ⊤}
use Rattle.refusal.specs.declared.Refusal.{Refusal}
use mathlib.Core.Path.{◌≡◌, refl, sym}
use Prim.Native.Nat.{ℕ, zero, suc, ◌≤◌, ◌<◌}
use mathlib.Core.Bool.{Bool, true, false, not, cond, ◌&&◌, true≢false}
use mathlib.Core.List.{List, [], ◌∷◌, ◌++◌}
use mathlib.Core.Option.{Option, none, some}
use borrow.Author.Tests.{ltb-true, leb-true, leb-false}
use lib.Dec.{ltb, leb}
use lib.ListN.{length, drop, length-map}
use native.Mathlib.Omega.{arith}
use Rattle.level.specs.Levels.{split}
use Rattle.topic.specs.Answers.{and_then}
use Rattle.topic.proofs.RuleLaws.{checked-append}
use Rattle.topic.specs.Answers.{checked}
use Rattle.topic.specs.Match.{match47}
use Rattle.topic.specs.Rules.{Rule, name_rules, filter_rules}
use Rattle.held.specs.Order.{Filter, same_filter, filter_lt, same_pair, pair_lt}
use Rattle.held.specs.Ascending.{All, keep}
use Rattle.held.specs.Room.{Room, up_to, in_range, room_rules, depth_rule}
use Rattle.held.specs.History.{verdict, accepted, run}
use Rattle.held.specs.Subscriptions.{Pair, AscPairs, is_held, insert_held, remove_held, Call, insert, remove, insert_rules, subscriptions, pair_of, values_of, listing}
use Rattle.held.specs.Retained.{Named, set_held, erase_held, expired, unexpired, sweep_held, Call as Change, set, sweep, retained, lookup, left, all, page}
use Rattle.held.proofs.Orders.{and_left, and_right}
use Rattle.held.proofs.Entries.{all_keep, all-put, all_map, all_with, all_take, all_drop}
use Rattle.held.proofs.Listing.{listing-all}
use Rattle.held.proofs.Texts.{filter_written, name_written}
use Rattle.held.proofs.HeldLaws.{pairs_insert, pairs_remove}
use Rattle.held.proofs.RoomLaws.{room_within}
use Rattle.held.proofs.Histories.{run_keeps, all_calls}
use Rattle.held.proofs.Lengths.{length_insert}
use Rattle.held.specs.Sized.{Written, SizedRecord, SmallStored, SizedName}

pub length-keep : {E : Type 0} (q : E → Bool) (l : List E) → length (keep q l) ≤ length l
length-keep q [] = omega arith
length-keep q (e ∷ l) = go (q e) (length-keep q l)
  where
    go : (t : Bool) → length (keep q l) ≤ length l → length (cond t (e ∷ keep q l) (keep q l)) ≤ suc (length l)
    go true h = omega arith
    go false h = omega arith

-- a pair whose text and value fit their bytes
pub record SizedPair (p : Pair) : Type 0 where
  pub text : Written p.0
  pub value : p.1 < 4294967296

-- the records of a listing fit
module _ (h : List Pair) (sized : All SizedPair h) (few : length h ≤ 8192) where
  values_sized : (f : Filter) → All (λ v. v < 4294967296) (values_of f h)
  unfolding values_of
  values_sized f =
      all_map (λ v. v < 4294967296) (λ p. p.1) (keep (λ p. same_filter f p.0) h)
      (all_with SizedPair (λ p. p.1 < 4294967296) (λ p s. s.value) (keep (λ p. same_filter f p.0) h) (all_keep SizedPair (λ p. same_filter f p.0) h sized))

  pub values_few : (f : Filter) → length (values_of f h) ≤ 8192
  unfolding values_of
  values_few f = simp length-map (omega (arith, length-keep (λ p. same_filter f p.0) h))

  pub listing_sized : (n : Filter) → All SizedRecord (listing n h)
  listing_sized n =
      listing-all SizedRecord n h (all_with SizedPair (λ p. SizedRecord (p.0, values_of p.0 h))
      (λ p s. record { text = s.text; many = omega (arith, values_few p.0); values = values_sized p.0 }) h sized)

-- both lists of rules are kept
both-accepted : (a b : List Rule) → accepted (checked (a ++ b)) ≡ true → (accepted (checked a) ≡ true) × (accepted (checked b) ≡ true)
both-accepted a b e = go (checked a) (checked b) (rw (checked-append a b) at e)
  where
    go : (x y : Result ⊤ Refusal) → accepted (and_then x y) ≡ true → (accepted x ≡ true) × (accepted y ≡ true)
    go (Ok _) y e = (refl, e)
    go (Err r) y e = absurd (true≢false (sym e))

-- histories keep the bounds: values are u32, and accepted texts are short
abbrev pub SmallCall : Call → Type 0
SmallCall c = (pair_of c).1 < 4294967296

sized_after : (r : Room) (c : Call) (h : List Pair) → SmallCall c → accepted (verdict (subscriptions r c h)) ≡ true → All SizedPair h → All SizedPair (subscriptions r c h).after
unfolding insert_held remove_held verdict
sized_after r (insert s v) h q e a =
    all-put SizedPair pair_lt (λ p. p) (split s, v) h
    (record { text = filter_written s (both-accepted (filter_rules s) (depth_rule s ∷ (subscriptions r (insert s v) h).rooms) e).0; value = q }) a
sized_after r (remove s v) h q e a = all_keep SizedPair (λ p. not (same_pair (split s, v) p)) h a

pub run_sized : (r : Room) (cs : List Call) → All SmallCall cs → All SizedPair (run subscriptions r cs [])
run_sized r cs q = run_keeps subscriptions r (All SizedPair) SmallCall (sized_after r) cs [] q tt

-- and no more pairs are held than there is room for
few_inserted : (r : Room) (p : Pair) (h : List Pair) → AscPairs h → length h ≤ r.pairs
    → accepted (checked (room_rules r (is_held p h) (insert_held p h))) ≡ true → length (insert_held p h) ≤ r.pairs
few_inserted r p h a l e = go (is_held p h) refl e
  where
    go : (t : Bool) → is_held p h ≡ t → accepted (checked (room_rules r t (insert_held p h))) ≡ true → length (insert_held p h) ≤ r.pairs
    go true q b = rw (length_insert p h a, q) l
    go false q b = (room_within r (insert_held p h) b).pairs

few_removed : (p : Pair) (h : List Pair) → length (remove_held p h) ≤ length h
unfolding remove_held
few_removed p h = length-keep (λ q. not (same_pair p q)) h

abbrev Few : Room → List Pair → Type 0
Few r h = AscPairs h × (length h ≤ r.pairs)

few_after : (r : Room) (c : Call) (h : List Pair) → accepted (verdict (subscriptions r c h)) ≡ true → Few r h → Few r (subscriptions r c h).after
unfolding verdict
few_after r (insert s v) h e a =
    (pairs_insert (split s, v) h a.0, few_inserted r (split s, v) h a.0 a.1 (both-accepted (insert_rules s) (subscriptions r (insert s v) h).rooms e).1)
few_after r (remove s v) h e a = (pairs_remove (split s, v) h a.0, omega (arith, few_removed (split s, v) h, a.1))

pub run_few : (r : Room) (cs : List Call) → length (run subscriptions r cs []) ≤ r.pairs
run_few r cs = (run_keeps subscriptions r (Few r) (λ c. Unit {0}) (λ c h q. few_after r c h) cs [] (all_calls cs) (tt, omega arith)).1

-- capacities in range, as orders
pub record InRange (r : Room) : Type 0 where
  pub nodes : (0 < r.nodes) × (r.nodes ≤ 4096)
  pub pairs : (0 < r.pairs) × (r.pairs ≤ 8192)
  pub cells : (0 < r.cells) × (r.cells ≤ 8192)

up-to : (most n : ℕ) → up_to most n ≡ true → (0 < n) × (n ≤ most)
up-to most n e = (ltb-true 0 n (and_left (ltb 0 n) (leb n most) e), leb-true n most (and_right (ltb 0 n) (leb n most) e))

pub in-range : (r : Room) → in_range r ≡ true → InRange r
in-range r e =
    let f = and_right (up_to 4096 r.nodes) (up_to 8192 r.pairs && up_to 8192 r.cells) e in
    record {
      nodes = up-to 4096 r.nodes (and_left (up_to 4096 r.nodes) (up_to 8192 r.pairs && up_to 8192 r.cells) e);
      pairs = up-to 8192 r.pairs (and_left (up_to 8192 r.pairs) (up_to 8192 r.cells) f);
      cells = up-to 8192 r.cells (and_right (up_to 8192 r.pairs) (up_to 8192 r.cells) f);
    }

pub run-within : (r : Room) (cs : List Call) → in_range r ≡ true → length (run subscriptions r cs []) ≤ 8192
run-within r cs i = omega (arith, run_few r cs, (in-range r i).pairs.1)

-- histories keep it, where handles are u32 and moments u64
abbrev pub SmallChange : Change → Type 0
SmallChange (set s n x) = SmallStored x
SmallChange (sweep now) = Unit {0}

names_sized_after : (r : Room) (c : Change) (h : List Named) → SmallChange c → accepted (verdict (retained r c h)) ≡ true → All SizedName h → All SizedName (retained r c h).after
unfolding set_held erase_held sweep_held verdict
names_sized_after r (set s zero x) h q e a = all_keep SizedName (λ e. not (same_filter (split s) e.0)) h a
names_sized_after r (set s (suc n) x) h q e a =
    all-put SizedName filter_lt (λ e. e.0) (split s, x) h
    (record { text = name_written s (both-accepted (name_rules s) (depth_rule s ∷ (retained r (set s (suc n) x) h).rooms) e).0; small = q }) a
names_sized_after r (sweep now) h q e a = all_keep SizedName (λ e. unexpired now e.1) h a

pub run_names_sized : (r : Room) (cs : List Change) → All SmallChange cs → All SizedName (run retained r cs [])
run_names_sized r cs q = run_keeps retained r (All SizedName) SmallChange (names_sized_after r) cs [] q tt

pub lookup_sized : (f : Filter) (now : ℕ) (h : List Named) → All SizedName h → All SizedName (lookup f now h)
unfolding lookup
lookup_sized f now h a = all_keep SizedName (λ e. match47 f e.0 && unexpired now e.1) h a

pub page_sized : (offset limit now : ℕ) (h : List Named) → All SizedName h → All SizedName (page offset limit now h)
unfolding page
page_sized offset limit now h a = all_take SizedName limit (drop offset (all now h)) (all_drop SizedName offset (all now h) (lookup_sized ((35 ∷ []) ∷ []) now h a))

-- the remaining time of a record that has not expired is at least 1, so 0 is free for 'no moment'
pub left_some : (now m : ℕ) → expired now (some m) ≡ false → 1 ≤ left now (some m)
left_some now m e = omega (arith, leb-false m now e)

pub left-fits : (now : ℕ) (m : Option ℕ) → ((k : ℕ) → m ≡ some k → k < 18446744073709551616) → left now m < 18446744073709551616
left-fits now none h = omega arith
left-fits now (some m) h = omega (arith, h m refl)
