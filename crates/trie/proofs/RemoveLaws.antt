-- Removing a value: what each answer rests on. Assumes nothing.
use Rattle.std.specs.Prelude.{Err, None, Ok, Option, Result, Some}
use Rattle.std.proofs.lemmas.Option.{none-some, same_Some}
use Rattle.refusal.specs.declared.Refusal.{Refusal}
use mathlib.Core.Path.{◌≡◌, refl, sym, ap, ◌∙◌}
use mathlib.Core.Bool.{Bool, true, false, not}
use mathlib.Core.List.{List, [], ◌∷◌, ◌++◌}
use Prim.Native.Nat.{ℕ, ◌+◌, ◌-◌, ◌≤◌, ◌<◌}
use native.Mathlib.Omega.{arith}
use lib.Dec.{eqb}
use lib.ListN.{length, take, get_or, length-append}
use borrow.Author.Tests.{eq-eqb}
use Rattle.refusal.specs.declared.Refusal.TheVariants.{NotAStore}
use Rattle.level.specs.Levels.{split}
use Rattle.topic.specs.Rules.{filter_rules}
use Rattle.topic.specs.Answers.{checked}
use Rattle.held.specs.Order.{Filter, same_pair}
use Rattle.held.specs.Ascending.{member}
use Rattle.held.specs.Subscriptions.{is_held, remove_held, remove}
use Rattle.held.specs.History.{accepted}
use Rattle.held.specs.Forest.{Forest, leaf, held, Full}
use Rattle.held.specs.Walks.{hit, values_at}
use Rattle.held.specs.Edit.{remove_f, cut_f, without_value}
use Rattle.held.proofs.Bounds.{length-keep}
use Rattle.held.proofs.RoomLaws.{Within}
use Rattle.held.proofs.ByTexts.{remove_text}
use Rattle.region.specs.Layout.{level_units}
use Rattle.region.specs.Units.{value_of}
use Rattle.region.specs.Store.{room_at, forest_at, SubscriptionStore}
use Rattle.region.specs.Shapes.{UnitsOf}
use Rattle.region.proofs.Instances.{values}
use Rattle.seek.specs.declared.Path.{Path}
use Rattle.seek.specs.PathFound.{PathFound}
use Rattle.change.specs.Ways.{ahead}
use Rattle.change.proofs.EditLaws.{Becomes}
use Rattle.change.proofs.StoreLaws.{store_holds}
use Rattle.edit.specs.Calls.{Step, Does}
use Rattle.edit.specs.Taking.{alone_in, PathTaken, OneLess}
use Rattle.edit.proofs.KnownPath.{own_is, node_is}
use Rattle.edit.proofs.Taken.{cut-within, alone_own, not_alone, unit-gone, path-gone}
use Rattle.trie.specs.Values.{spot_from}
use Rattle.trie.specs.Slots.{slot_at, slot_in}
use Rattle.trie.specs.Calls.{held_in, subscription_store}
use Rattle.trie.proofs.ValueLaws.{Among, spot_among, spot_apart}
use Rattle.trie.proofs.StepLaws.{remove-none, remove_done}
use Rattle.trie.proofs.StoredPath.{held_is}
use Rattle.trie.proofs.StoredSlot.{here, own_asc, slot_taken, slot_free, slot-stored}

one_of : (a b : List ℕ) (x : ℕ) → length (a ++ (x ∷ b)) ≡ 1 → (a ≡ []) × (b ≡ [])
one_of [] [] x h = (refl, refl)
one_of [] (y ∷ b) x h = absurd (omega (arith, h))
one_of (y ∷ a) b x h = absurd (omega (arith, h, length-append a (x ∷ b)))

without_one : (x : ℕ) → without_value x (x ∷ []) ≡ []
without_one x = rw (eq-eqb x x refl)

-- what is held after a removal fits
module _ (s : List ℕ) (st : SubscriptionStore s) (f : List ℕ) (fine : checked (filter_rules f) ≡ Ok tt) (x : ℕ) where
  removed_full : Full (cut_f (without_value x) (split f) (forest_at value_of s))
  unfolding remove_f
  removed_full = (remove_text f (ap accepted fine) x (forest_at value_of s) st.well).1.full

  removed-within : Within (room_at s) (held (cut_f (without_value x) (split f) (forest_at value_of s)))
  unfolding remove_f remove_held
  removed-within =
      let i = remove_text f (ap accepted fine) x (forest_at value_of s) st.well in
      cut-within values 1 s (forest_at value_of s) (store_holds s st) (without_value x) (split f) removed_full
      (omega (arith, ap length i.0, length-keep (λ (q : Filter × ℕ). not (same_pair (split f, x) q)) (held_in s)))

module _ (s : List ℕ) {base n room : ℕ} (units : UnitsOf s base n room) (f : List ℕ) (fine : checked (filter_rules f) ≡ Ok tt) (few : length (split f) ≤ 128) {p : Path} (pf : PathFound base s n f p)
    (q : length f < p.from) (full : length p.nodes ≡ 128) (x : ℕ) {node : ℕ} (at : node ≡ get_or p.nodes (p.depth - 1) 0) where
  own_held : (st : SubscriptionStore s) → values_at (split f) (hit [] (forest_at value_of s)) ≡ (here s units f few pf q full st).own
  own_held st = own_is values 1 s units (forest_at value_of s) (store_holds s st) f few pf q

  module _ {answer : Option (Result ℕ ℕ)} (e : answer ≡ slot_in base s n node x) where
    pub gone_broken : answer ≡ None → Does subscription_store (remove f x) s s (Err NotAStore)
    gone_broken h = record { does = λ (st : SubscriptionStore s). absurd (none-some _ (sym h ∙ e ∙ slot-stored s units f few pf q full st x at)) }

    module _ {slot : Result ℕ ℕ} (g : answer ≡ Some slot) where
      stored : (st : SubscriptionStore s) → slot ≡ slot_at (ahead (here s units f few pf q full st).way + level_units (here s units f few pf q full st).level) (spot_from 0 x (here s units f few pf q full st).own)
      stored st = same_Some _ _ (sym g ∙ e ∙ slot-stored s units f few pf q full st x at)

      pub gone_absent : {k : ℕ} → slot ≡ Err k → Does subscription_store (remove f x) s s (Ok 0)
      gone_absent h =
          record {
            does = λ (st : SubscriptionStore s).
                let i = slot_free _ (spot_from 0 x (here s units f few pf q full st).own) (sym (stored st) ∙ h) in
                let a = spot_apart x (here s units f few pf q full st).own (own_asc s units f few pf q full st) i.1 in
                remove-none s st f x fine (held_is s st f x ∙ ap (member eqb x) (own_held st) ∙ a.absent);
          }

      module _ {k : ℕ} (h : slot ≡ Ok k) {b : Bool} (eb : b ≡ alone_in base s n node) where
        module _ (st : SubscriptionStore s) where
          abbrev F : Forest ℕ
          F = forest_at value_of s

          place : (i : ℕ) × (spot_from 0 x (here s units f few pf q full st).own ≡ Ok i) × (k ≡ ahead (here s units f few pf q full st).way + level_units (here s units f few pf q full st).level + i)
          place = slot_taken _ (spot_from 0 x (here s units f few pf q full st).own) (sym (stored st) ∙ h)

          among : Among x (here s units f few pf q full st).own place.0
          among = spot_among x (here s units f few pf q full st).own (own_asc s units f few pf q full st) place.1

          is-held : is_held (split f, x) (held_in s) ≡ true
          is-held = held_is s st f x ∙ ap (member eqb x) (own_held st) ∙ among.present

          done : (t : List ℕ) → Becomes values 1 s t (cut_f (without_value x) (split f) F) → Step subscription_store (remove f x) s t (Ok 1)
          unfolding remove_f
          done t c = remove_done s st f x fine is-held t c

          -- the only value, of a node without children
          path_step : b ≡ true → {t : List ℕ} {r : Result ℕ Refusal} → PathTaken s base n p.nodes p.depth f 1 t r → Step subscription_store (remove f x) s t r
          path_step z {t} {r} a =
              let c = alone_own values 1 s units F (store_holds s st) f few pf full q at (sym eb ∙ z) in
              let o = one_of among.before among.after x (sym (ap length among.all) ∙ c.0) in
              let one : (here s units f few pf q full st).own ≡ x ∷ [] = among.all ∙ rw (o.0, o.1) in
              path-gone values 1 s units F (store_holds s st) f few pf full q (without_value x) (removed_full s st f fine x) (removed-within s st f fine x) x one c.1 (without_one x)
              (λ (t : List ℕ) (r : Result ℕ Refusal). Step subscription_store (remove f x) s t r) done a

          -- one of several, or of a node with children
          others : b ≡ false → among.before ++ among.after ≡ [] → (here s units f few pf q full st).kids ≡ leaf → ⊥
          others z u v =
              let c : length (here s units f few pf q full st).own ≡ 1 = omega (arith, ap length among.all, length-append among.before (x ∷ among.after), ap length u, length-append among.before among.after) in
              not_alone values 1 s units F (store_holds s st) f few pf full q at (sym eb ∙ z) c v

          unit_step : b ≡ false → {t : List ℕ} {r : Result ℕ Refusal} → OneLess s base n (take (p.depth - 1) p.nodes) node k 1 t r → Step subscription_store (remove f x) s t r
          unit_step z a =
              let w : k ≡ ahead (here s units f few pf q full st).way + level_units (here s units f few pf q full st).level + length among.before = omega (arith, place.2, among.count) in
              unit-gone values 1 s units F (store_holds s st) f few pf full q (without_value x) (removed_full s st f fine x) (removed-within s st f fine x) x among.before among.after among.all among.without (others z)
              (λ (t : List ℕ) (r : Result ℕ Refusal). Step subscription_store (remove f x) s t r) done (at ∙ node_is values 1 s units F (store_holds s st) f few pf q full) w a

        pub gone_path : b ≡ true → {t : List ℕ} {r : Result ℕ Refusal} → PathTaken s base n p.nodes p.depth f 1 t r → Does subscription_store (remove f x) s t r
        gone_path z a = record { does = λ (st : SubscriptionStore s). path_step st z a }

        pub gone_unit : b ≡ false → {t : List ℕ} {r : Result ℕ Refusal} → OneLess s base n (take (p.depth - 1) p.nodes) node k 1 t r → Does subscription_store (remove f x) s t r
        gone_unit z a = record { does = λ (st : SubscriptionStore s). unit_step st z a }
