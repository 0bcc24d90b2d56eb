-- Demand 3: what a history leaves held is settled by each pair's (each name's) own calls, in their order, where none is refused for room. Assumes nothing.
use mathlib.Core.Path.{◌≡◌, refl, sym, ap, ◌∙◌}
use Prim.Native.Nat.{ℕ, zero, suc}
use mathlib.Core.Bool.{Bool, true, false, not, cond}
use mathlib.Core.List.{List, [], ◌∷◌}
use mathlib.Core.Option.{none, some}
use borrow.Author.Tests.{not-true}
use Rattle.level.proofs.Join.{join-split}
use Rattle.level.specs.Levels.{split, join}
use Rattle.topic.specs.Answers.{checked}
use Rattle.topic.specs.Rules.{name_rules, filter_rules}
use Rattle.held.specs.Ascending.{All}
use Rattle.held.specs.Order.{Filter, same_filter, same_pair}
use Rattle.held.specs.Room.{Room}
use Rattle.held.specs.History.{verdict, accepted, result, Kind, run, in_turn, for_room, has_room}
use Rattle.held.specs.Subscriptions.{Pair, AscPairs, is_held, insert_held, remove_held, Call, insert, remove, insert_rules, subscriptions, pair_of, calls_of, SameCalls, listing_bytes}
use Rattle.held.specs.Caught.{said}
use Rattle.held.specs.Retained.{Stored, Named, AscNames, has_filter, stored, set_held, erase_held, Call as Change, set, sweep, set_rules, retained, about, calls_of as changesOf, SameCalls as SameChanges, lookup_bytes, page_bytes}
use Rattle.held.specs.Found.{said as told}
use Rattle.held.proofs.Orders.{and_left, and_right, same_sym, filter_order, pair_order}
use Rattle.held.proofs.HeldLaws.{held_insert, held_remove, pairs_insert, pairs_remove, pairs_settled, names_settled, names-set, names_erase, names_sweep, stored-set, stored_erase, stored_sweep}
use Rattle.held.proofs.RoomLaws.{unless_room, only_room, from12to15, filter_never, name_never}

-- what every accepted call keeps, a history keeps
module _ {C H : Type 0} (k : Kind C H) (r : Room) (P : H → Type 0) (Q : C → Type 0)
    (keeps : (c : C) (h : H) → Q c → accepted (verdict (k r c h)) ≡ true → P h → P (k r c h).after) where
  result_keeps : (c : C) (h : H) → Q c → P h → P (result (k r c h) h)
  unfolding result
  result_keeps c h q a = go (accepted (verdict (k r c h))) refl
    where
      go : (t : Bool) → accepted (verdict (k r c h)) ≡ t → P (cond t (k r c h).after h)
      go true e = keeps c h q e a
      go false e = a

  pub run_keeps : (cs : List C) (h : H) → All Q cs → P h → P (run k r cs h)
  run_keeps [] h q a = a
  run_keeps (c ∷ cs) h q a = run_keeps cs (result (k r c h) h) q.1 (result_keeps c h q.0 a)

pub all_calls : {C : Type 0} (cs : List C) → All (λ c. Unit {0}) cs
all_calls [] = tt
all_calls (c ∷ cs) = (tt, all_calls cs)

room-first : {C H : Type 0} (k : Kind C H) (r : Room) (c : C) (cs : List C) (h : H) → has_room k r (c ∷ cs) h ≡ true → (for_room (verdict (k r c h)) ≡ false) × (has_room k r cs (result (k r c h) h) ≡ true)
room-first k r c cs h e = (
  not-true (for_room (verdict (k r c h))) (and_left (not (for_room (verdict (k r c h)))) (has_room k r cs (result (k r c h) h)) e),
  and_right (not (for_room (verdict (k r c h)))) (has_room k r cs (result (k r c h) h)) e,
)

-- Subscriptions: the text of a call
abbrev text_of : Call → List ℕ
text_of (insert s v) = s
text_of (remove s v) = s

insert-said : (p q : Pair) (h : List Pair) (a t : Bool) → same_pair p q ≡ t → is_held p (cond a (insert_held q h) h) ≡ cond t (cond a true (is_held p h)) (is_held p h)
insert-said p q h true true e = held_insert p q h ∙ rw e
insert-said p q h true false e = held_insert p q h ∙ rw e
insert-said p q h false true e = refl
insert-said p q h false false e = refl

remove-said : (p q : Pair) (h : List Pair) (a t : Bool) → same_pair p q ≡ t → is_held p (cond a (remove_held q h) h) ≡ cond t (cond a false (is_held p h)) (is_held p h)
remove-said p q h true true e = held_remove p q h ∙ rw (same_sym pair_order p q true e)
remove-said p q h true false e = held_remove p q h ∙ rw (same_sym pair_order p q false e)
remove-said p q h false true e = refl
remove-said p q h false false e = refl

call-said : (p : Pair) (r : Room) (c : Call) (h : List Pair) → for_room (verdict (subscriptions r c h)) ≡ false
    → is_held p (result (subscriptions r c h) h) ≡ cond (same_pair p (pair_of c)) (said c (is_held p h)) (is_held p h)
call-said p r (insert s v) h f =
    ap (is_held p) (unless_room (subscriptions r (insert s v) h) h (only_room r (is_held (split s, v) h) (insert_held (split s, v) h)) f)
    ∙ insert-said p (split s, v) h (accepted (checked (insert_rules s))) (same_pair p (split s, v)) refl
call-said p r (remove s v) h f =
    ap (is_held p) (unless_room (subscriptions r (remove s v) h) h refl f) ∙ remove-said p (split s, v) h (accepted (checked (filter_rules s))) (same_pair p (split s, v)) refl

-- whether a pair is held is settled by its own calls, in their order
pub history-held : (p : Pair) (r : Room) (cs : List Call) (h : List Pair) → has_room subscriptions r cs h ≡ true → is_held p (run subscriptions r cs h) ≡ in_turn said (calls_of p cs) (is_held p h)
unfolding calls_of
history-held p r [] h e = refl
history-held p r (c ∷ cs) h e =
    let f = room-first subscriptions r c cs h e in
    history-held p r cs (result (subscriptions r c h) h) f.1 ∙ ap (in_turn said (calls_of p cs)) (call-said p r c h f.0) ∙ go (same_pair p (pair_of c))
  where
    go : (t : Bool) → in_turn said (calls_of p cs) (cond t (said c (is_held p h)) (is_held p h)) ≡ in_turn said (cond t (c ∷ calls_of p cs) (calls_of p cs)) (is_held p h)
    go true = refl
    go false = refl

-- of a pair that no accepted text can name, nothing is ever held
text-of : (c : Call) → (pair_of c).0 ≡ split (text_of c)
text-of (insert s v) = refl
text-of (remove s v) = refl

cond_same : {A : Type 0} (t : Bool) (a : A) → cond t a a ≡ a
cond_same true a = refl
cond_same false a = refl

unheard : (c : Call) → accepted (checked (insert_rules (text_of c))) ≡ false → said c false ≡ false
unheard (insert s v) e = rw e
unheard (remove s v) e = cond_same (accepted (checked (filter_rules s))) false

unsaid : (p : Pair) → accepted (checked (insert_rules (join p.0))) ≡ false → (cs : List Call) → in_turn said (calls_of p cs) false ≡ false
unfolding calls_of
unsaid p n [] = refl
unsaid p n (c ∷ cs) = go (same_pair p (pair_of c)) refl (unsaid p n cs)
  where
    go : (t : Bool) → same_pair p (pair_of c) ≡ t → in_turn said (calls_of p cs) false ≡ false → in_turn said (cond t (c ∷ calls_of p cs) (calls_of p cs)) false ≡ false
    go false q i = i
    go true q i =
        let z : p ≡ pair_of c = pair_order.eq_true p (pair_of c) q in
        let j : join p.0 ≡ text_of c = ap (λ (x : Pair). join x.0) z ∙ ap join (text-of c) ∙ join-split (text_of c) in
        let d : accepted (checked (insert_rules (text_of c))) ≡ false = ap (λ (s : List ℕ). accepted (checked (insert_rules s))) (sym j) ∙ n in
        ap (in_turn said (calls_of p cs)) (unheard c d) ∙ i

pairs_after : (r : Room) (c : Call) (h : List Pair) → AscPairs h → AscPairs (subscriptions r c h).after
pairs_after r (insert s v) h a = pairs_insert (split s, v) h a
pairs_after r (remove s v) h a = pairs_remove (split s, v) h a

-- a history leaves an ascending list
pub run_pairs : (r : Room) (cs : List Call) → AscPairs (run subscriptions r cs [])
run_pairs r cs = run_keeps subscriptions r AscPairs (λ c. Unit {0}) (λ c h q e a. pairs_after r c h a) cs [] (all_calls cs) tt

-- demand 3: where each pair that can be held has the same calls in the same order, the same pairs are held
pub same-held : (r s : Room) (cs ds : List Call) → has_room subscriptions r cs [] ≡ true → has_room subscriptions s ds [] ≡ true
    → SameCalls cs ds → run subscriptions r cs [] ≡ run subscriptions s ds []
unfolding is_held
same-held r s cs ds a b e =
    pairs_settled (run subscriptions r cs []) (run subscriptions s ds []) (run_pairs r cs) (run_pairs s ds)
    (λ p. history-held p r cs [] a ∙ go p (accepted (checked (insert_rules (join p.0)))) refl ∙ sym (history-held p s ds [] b))
  where
    go : (p : Pair) (t : Bool) → accepted (checked (insert_rules (join p.0))) ≡ t → in_turn said (calls_of p cs) false ≡ in_turn said (calls_of p ds) false
    go p true t = ap (λ (c : List Call). in_turn said c false) (e p t)
    go p false t = unsaid p t cs ∙ sym (unsaid p t ds)

-- and so the same listing, byte for byte
pub same-listing : (r s : Room) (cs ds : List Call) → has_room subscriptions r cs [] ≡ true → has_room subscriptions s ds [] ≡ true
    → SameCalls cs ds → (n : Filter) → listing_bytes n (run subscriptions r cs []) ≡ listing_bytes n (run subscriptions s ds [])
same-listing r s cs ds a b e n = ap (listing_bytes n) (same-held r s cs ds a b e)

-- Retained: what a call says of a name
erase-told : (n m : Filter) (h : List Named) (a t : Bool) → same_filter n m ≡ t → stored n (cond a (erase_held m h) h) ≡ cond t (cond a none (stored n h)) (stored n h)
erase-told n m h true true e = stored_erase n m h ∙ rw e
erase-told n m h true false e = stored_erase n m h ∙ rw e
erase-told n m h false true e = refl
erase-told n m h false false e = refl

set_told : (n m : Filter) (x : Stored) (h : List Named) (a t : Bool) → same_filter n m ≡ t → stored n (cond a (set_held m x h) h) ≡ cond t (cond a (some x) (stored n h)) (stored n h)
set_told n m x h true true e = stored-set n m x h ∙ rw e
set_told n m x h true false e = stored-set n m x h ∙ rw e
set_told n m x h false true e = refl
set_told n m x h false false e = refl

call-told : (n : Filter) (r : Room) (c : Change) (h : List Named) → AscNames h → for_room (verdict (retained r c h)) ≡ false
    → stored n (result (retained r c h) h) ≡ cond (about n c) (told c (stored n h)) (stored n h)
call-told n r (set s zero x) h a f =
    ap (stored n) (unless_room (retained r (set s zero x) h) h refl f) ∙ erase-told n (split s) h (accepted (checked (name_rules s))) (same_filter n (split s)) refl
call-told n r (set s (suc k) x) h a f =
    ap (stored n) (unless_room (retained r (set s (suc k) x) h) h (only_room r (has_filter (split s) h) (set_held (split s) x h)) f)
    ∙ set_told n (split s) x h (accepted (checked (set_rules s))) (same_filter n (split s)) refl
call-told n r (sweep now) h a f = ap (stored n) (unless_room (retained r (sweep now) h) h refl f) ∙ stored_sweep n now h a

names_after : (r : Room) (c : Change) (h : List Named) → AscNames h → AscNames (retained r c h).after
names_after r (set s zero x) h a = names_erase (split s) h a
names_after r (set s (suc n) x) h a = names-set (split s) x h a
names_after r (sweep now) h a = names_sweep now h a

pub run_names : (r : Room) (cs : List Change) (h : List Named) → AscNames h → AscNames (run retained r cs h)
run_names r cs h a = run_keeps retained r AscNames (λ c. Unit {0}) (λ c h q e a. names_after r c h a) cs h (all_calls cs) a

-- what is stored for a name is settled by its own calls and the sweeps, in their order
pub history-stored : (n : Filter) (r : Room) (cs : List Change) (h : List Named) → AscNames h → has_room retained r cs h ≡ true → stored n (run retained r cs h) ≡ in_turn told (changesOf n cs) (stored n h)
unfolding changesOf
history-stored n r [] h a e = refl
history-stored n r (c ∷ cs) h a e =
    let f = room-first retained r c cs h e in
    history-stored n r cs (result (retained r c h) h) (run_names r (c ∷ []) h a) f.1 ∙ ap (in_turn told (changesOf n cs)) (call-told n r c h a f.0) ∙ go (about n c)
  where
    go : (t : Bool) → in_turn told (changesOf n cs) (cond t (told c (stored n h)) (stored n h)) ≡ in_turn told (cond t (c ∷ changesOf n cs) (changesOf n cs)) (stored n h)
    go true = refl
    go false = refl

-- of a name that no accepted text can be, nothing is ever stored
untold-set : (n : Filter) → accepted (checked (set_rules (join n))) ≡ false → (s : List ℕ) → same_filter n (split s) ≡ true → accepted (checked (set_rules s)) ≡ false
untold-set n d s q =
    let z : n ≡ split s = filter_order.eq_true n (split s) q in
    ap (λ (t : List ℕ). accepted (checked (set_rules t))) (sym (ap join z ∙ join-split s)) ∙ d

untold_once : (n : Filter) → accepted (checked (set_rules (join n))) ≡ false → (c : Change) → about n c ≡ true → told c none ≡ none
untold_once n d (set s zero x) q = cond_same (accepted (checked (name_rules s))) none
untold_once n d (set s (suc k) x) q = ap (λ (t : Bool). cond t (some x) none) (untold-set n d s q)
untold_once n d (sweep now) q = refl

untold : (n : Filter) → accepted (checked (set_rules (join n))) ≡ false → (cs : List Change) → in_turn told (changesOf n cs) none ≡ none
unfolding changesOf
untold n d [] = refl
untold n d (c ∷ cs) = go (about n c) refl (untold n d cs)
  where
    go : (t : Bool) → about n c ≡ t → in_turn told (changesOf n cs) none ≡ none → in_turn told (cond t (c ∷ changesOf n cs) (changesOf n cs)) none ≡ none
    go false q i = i
    go true q i = ap (in_turn told (changesOf n cs)) (untold_once n d c q) ∙ i

-- demand 3 for names: each name's calls in the same order, sweeps counted for every name
pub same_names : (r s : Room) (cs ds : List Change) → has_room retained r cs [] ≡ true → has_room retained s ds [] ≡ true
    → SameChanges cs ds → run retained r cs [] ≡ run retained s ds []
unfolding stored
same_names r s cs ds a b e =
    names_settled (run retained r cs []) (run retained s ds []) (run_names r cs [] tt) (run_names s ds [] tt)
    (λ n. history-stored n r cs [] tt a ∙ go n (accepted (checked (set_rules (join n)))) refl ∙ sym (history-stored n s ds [] tt b))
  where
    go : (n : Filter) (t : Bool) → accepted (checked (set_rules (join n))) ≡ t → in_turn told (changesOf n cs) none ≡ in_turn told (changesOf n ds) none
    go n true t = ap (λ (c : List Change). in_turn told c none) (e n t)
    go n false t = untold n t cs ∙ sym (untold n t ds)

-- and so the same lookups and pages, byte for byte
pub same-lookup : (r s : Room) (cs ds : List Change) → has_room retained r cs [] ≡ true → has_room retained s ds [] ≡ true
    → SameChanges cs ds → (f : Filter) (now : ℕ) → lookup_bytes f now (run retained r cs []) ≡ lookup_bytes f now (run retained s ds [])
same-lookup r s cs ds a b e f now = ap (lookup_bytes f now) (same_names r s cs ds a b e)

pub same-page : (r s : Room) (cs ds : List Change) → has_room retained r cs [] ≡ true → has_room retained s ds [] ≡ true
    → SameChanges cs ds → (offset limit now : ℕ) → page_bytes offset limit now (run retained r cs []) ≡ page_bytes offset limit now (run retained s ds [])
same-page r s cs ds a b e offset limit now = ap (page_bytes offset limit now) (same_names r s cs ds a b e)

-- "12 to 15 are given only by insert and by set with a payload"
pub remove_never : (r : Room) (s : List ℕ) (v : ℕ) (h : List Pair) → from12to15 (verdict (subscriptions r (remove s v) h)) ≡ false
unfolding verdict
remove_never r s v h = filter_never s

pub erase_never : (r : Room) (s : List ℕ) (x : Stored) (h : List Named) → from12to15 (verdict (retained r (set s zero x) h)) ≡ false
unfolding verdict
erase_never r s x h = name_never s

pub sweep_never : (r : Room) (now : ℕ) (h : List Named) → from12to15 (verdict (retained r (sweep now) h)) ≡ false
unfolding verdict
sweep_never r now h = refl
