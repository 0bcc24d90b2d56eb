-- Inserting a value: what each answer rests on. Assumes nothing.
use Rattle.std.specs.Prelude.{Err, None, Ok, Option, Result, Some}
use Rattle.std.proofs.lemmas.Option.{none-some, same_Some}
use Rattle.refusal.specs.declared.Refusal.{Refusal}
use mathlib.Core.Path.{◌≡◌, refl, sym, ap, ◌∙◌}
use mathlib.Core.Bool.{false}
use mathlib.Core.List.{List, []}
use Prim.Native.Nat.{ℕ, ◌+◌, ◌-◌, ◌^◌, ◌≤◌, ◌<◌}
use native.Mathlib.Omega.{arith}
use lib.Dec.{eqb}
use lib.ListN.{length, take, get_or}
use Rattle.refusal.specs.declared.Refusal.TheVariants.{NotAStore}
use Rattle.level.specs.Levels.{split}
use Rattle.level.specs.Places.{levels_at}
use Rattle.topic.specs.Rules.{filter_rules}
use Rattle.topic.specs.Answers.{checked}
use Rattle.held.specs.Order.{Filter}
use Rattle.held.specs.Ascending.{member}
use Rattle.held.specs.Room.{level_cells}
use Rattle.held.specs.Subscriptions.{insert}
use Rattle.held.specs.History.{accepted}
use Rattle.held.specs.Forest.{Forest}
use Rattle.held.specs.Walks.{hit, values_at}
use Rattle.held.specs.Edit.{insert_f, with_value, missing, weigh}
use Rattle.held.proofs.ByTexts.{insert_text}
use Rattle.region.specs.Layout.{level_units, units_f}
use Rattle.region.specs.Units.{value_bytes, value_of}
use Rattle.region.specs.Store.{forest_at, SubscriptionStore}
use Rattle.region.specs.Shapes.{UnitsOf}
use Rattle.region.proofs.Instances.{values}
use Rattle.seek.specs.declared.Path.{Path}
use Rattle.seek.specs.PathFound.{PathFound}
use Rattle.seek.proofs.PathLaws.{holds-none}
use Rattle.room.specs.declared.Load.{Load}
use Rattle.room.specs.Runs.{WantedFor}
use Rattle.room.specs.Changes.{made_unit, made_chain}
use Rattle.change.specs.Ways.{ahead}
use Rattle.change.proofs.EditLaws.{Becomes}
use Rattle.change.proofs.StoreLaws.{store_holds}
use Rattle.edit.specs.Calls.{Step, Does}
use Rattle.edit.specs.Adding.{fitting, Added, no_fit, no-room, added, ChainAdded}
use Rattle.edit.proofs.KnownPath.{stands, own_is, node_is}
use Rattle.edit.proofs.Added.{none-missing, unit-more, unit-held, load_fits, chain_more, chain_held}
use Rattle.trie.specs.Values.{spot_from}
use Rattle.trie.specs.Slots.{slot_at, slot_in}
use Rattle.trie.specs.Calls.{subscription_store}
use Rattle.trie.proofs.ValueLaws.{Apart, spot_among, spot_apart}
use Rattle.trie.proofs.StepLaws.{insert_refused, insert_there, insert_new}
use Rattle.trie.proofs.StoredPath.{held_is, rooms_are, inserted-within, inserted_units}
use Rattle.trie.proofs.StoredSlot.{here, own_asc, slot_taken, slot_free, slot-stored}

module _ (s : List ℕ) {base n room : ℕ} (units : UnitsOf s base n room) (f : List ℕ) (fine : checked (filter_rules f) ≡ Ok tt) (few : length (split f) ≤ 128) {p : Path} (pf : PathFound base s n f p)
    (full : length p.nodes ≡ 128) where
  -- a new value, once the room was tested: the region then holds the forest with it
  module _ (st : SubscriptionStore s) (x : ℕ) (absent : member eqb x (values_at (split f) (hit [] (forest_at value_of s))) ≡ false) (nodes cells more : ℕ)
      (fits : fitting s (length (missing (split f) (forest_at value_of s))) (weigh level_cells (missing (split f) (forest_at value_of s))) ≡ fitting s nodes cells)
      (size : units_f (insert_f (split f) x (forest_at value_of s)) ≡ n + more) (made : List ℕ)
      (becomes : fitting s nodes cells ≡ Ok tt → Becomes values 1 s made (insert_f (split f) x (forest_at value_of s))) where
    new-pair : {t : List ℕ} {r : Result ℕ Refusal} → Added s n room nodes cells more made t r → Step subscription_store (insert f x) s t r
    new-pair (no_fit {r = r} z) = insert_refused s st f x fine r (rooms_are s st f units fine few x absent ∙ fits ∙ z)
    new-pair (no-room z g) = absurd (omega (arith, size, g, inserted_units s st f units fine few x absent (fits ∙ z)))
    new-pair (added z g) = insert_new s st f x fine few (held_is s st f x ∙ absent) (rooms_are s st f units fine few x absent ∙ fits ∙ z) made (becomes z)

  -- the nodes are there
  module _ (q : length f < p.from) (x : ℕ) {node : ℕ} (at : node ≡ get_or p.nodes (p.depth - 1) 0) where
    own_held : (st : SubscriptionStore s) → values_at (split f) (hit [] (forest_at value_of s)) ≡ (here s units f few pf q full st).own
    own_held st = own_is values 1 s units (forest_at value_of s) (store_holds s st) f few pf q

    -- a value that is not there yet
    module _ (st : SubscriptionStore s) (small : x < 256 ^ 4) {k : ℕ} (apart : Apart x (here s units f few pf q full st).own k) where
      abbrev F : Forest ℕ
      F = forest_at value_of s

      absent : member eqb x (values_at (split f) (hit [] F)) ≡ false
      absent = ap (member eqb x) (own_held st) ∙ apart.absent

      abbrev units_for : ℕ
      units_for = ahead (here s units f few pf q full st).way + level_units (here s units f few pf q full st).level

      fits : fitting s (length (missing (split f) F)) (weigh level_cells (missing (split f) F)) ≡ fitting s 0 0
      fits =
          ap (λ (m : Filter). fitting s (length m) (weigh level_cells m))
          (none-missing values 1 s units F (store_holds s st) f few pf full (with_value x) q x apart.before apart.after apart.all apart.with)

      more : units_f (insert_f (split f) x F) ≡ n + 1
      unfolding insert_f
      more = unit-more values 1 s units F (store_holds s st) f few pf full (with_value x) q x apart.before apart.after apart.all apart.with

      becomes : fitting s 0 0 ≡ Ok tt → Becomes values 1 s (made_unit base n (take (p.depth - 1) p.nodes) node (units_for + k) (value_bytes x) s) (insert_f (split f) x F)
      unfolding insert_f
      becomes z =
          let i = insert_text f (ap accepted fine) x F st.well in
          rw apart.count at (unit-held values 1 s units F (store_holds s st) f few pf full (with_value x) q x apart.before apart.after apart.all apart.with small i.1.full
          (inserted-within s st f units fine few x absent (fits ∙ z)) (at ∙ node_is values 1 s units F (store_holds s st) f few pf q full))

      new_value : {t : List ℕ} {r : Result ℕ Refusal} → Added s n room 0 0 1 (made_unit base n (take (p.depth - 1) p.nodes) node (units_for + k) (value_bytes x) s) t r
          → Step subscription_store (insert f x) s t r
      new_value a = new-pair st x absent 0 0 1 fits more _ becomes a

    module _ {answer : Option (Result ℕ ℕ)} (e : answer ≡ slot_in base s n node x) where
      pub value_broken : answer ≡ None → Does subscription_store (insert f x) s s (Err NotAStore)
      value_broken h = record { does = λ (st : SubscriptionStore s). absurd (none-some _ (sym h ∙ e ∙ slot-stored s units f few pf q full st x at)) }

      module _ {slot : Result ℕ ℕ} (g : answer ≡ Some slot) where
        stored : (st : SubscriptionStore s) → slot ≡ slot_at (ahead (here s units f few pf q full st).way + level_units (here s units f few pf q full st).level) (spot_from 0 x (here s units f few pf q full st).own)
        stored st = same_Some _ _ (sym g ∙ e ∙ slot-stored s units f few pf q full st x at)

        pub value_there : {k : ℕ} → slot ≡ Ok k → Does subscription_store (insert f x) s s (Ok 0)
        value_there h =
            record {
              does = λ (st : SubscriptionStore s).
                  let i = slot_taken _ (spot_from 0 x (here s units f few pf q full st).own) (sym (stored st) ∙ h) in
                  let r = spot_among x (here s units f few pf q full st).own (own_asc s units f few pf q full st) i.1 in
                  insert_there s st f x fine few (held_is s st f x ∙ ap (member eqb x) (own_held st) ∙ r.present);
            }

        pub value_added : {k : ℕ} → slot ≡ Err k → x < 256 ^ 4 → {unit : List ℕ} → unit ≡ value_bytes x → {t : List ℕ} {r : Result ℕ Refusal}
            → Added s n room 0 0 1 (made_unit base n (take (p.depth - 1) p.nodes) node k unit s) t r → Does subscription_store (insert f x) s t r
        value_added h small eu d =
            record {
              does = λ (st : SubscriptionStore s).
                  let i = slot_free _ (spot_from 0 x (here s units f few pf q full st).own) (sym (stored st) ∙ h) in
                  let a = spot_apart x (here s units f few pf q full st).own (own_asc s units f few pf q full st) i.1 in
                  new_value st small a (rw (i.2, eu) at d);
            }

  -- some nodes are missing
  module _ (size : length f ≤ 65535) (q : p.from ≤ length f) (x : ℕ) (small : x < 256 ^ 4) where
    module _ (st : SubscriptionStore s) (load : Load) (w : WantedFor (levels_at f p.from) load) where
      abbrev G : Forest ℕ
      G = forest_at value_of s

      none : member eqb x (values_at (split f) (hit [] G)) ≡ false
      none = ap (member eqb x) (holds-none base s n f p pf values G (stands values 1 s units G (store_holds s st)) few q)

      chain_fits : fitting s (length (missing (split f) G)) (weigh level_cells (missing (split f) G)) ≡ fitting s load.nodes load.cells
      chain_fits = load_fits values 1 s units G (store_holds s st) f few pf full (with_value x) q x refl load w

      chain_size : units_f (insert_f (split f) x G) ≡ n + load.units
      unfolding insert_f
      chain_size = chain_more values 1 s units G (store_holds s st) f few pf full (with_value x) q x refl load w

      chain_becomes : fitting s load.nodes load.cells ≡ Ok tt
          → Becomes values 1 s (made_chain base n (take p.depth p.nodes) p.place (p.depth + 1) (value_bytes x) (levels_at f p.from) load s) (insert_f (split f) x G)
      unfolding insert_f
      chain_becomes z =
          let i = insert_text f (ap accepted fine) x G st.well in
          chain_held values 1 s units G (store_holds s st) f few pf full (with_value x) q x refl load w small size i.1.full (inserted-within s st f units fine few x none (chain_fits ∙ z))

      new-chain : {t : List ℕ} {r : Result ℕ Refusal}
          → Added s n room load.nodes load.cells load.units (made_chain base n (take p.depth p.nodes) p.place (p.depth + 1) (value_bytes x) (levels_at f p.from) load s) t r → Step subscription_store (insert f x) s t r
      new-chain a = new-pair st x none load.nodes load.cells load.units chain_fits chain_size _ chain_becomes a

    pub chain_does : {unit : List ℕ} → unit ≡ value_bytes x → {t : List ℕ} {r : Result ℕ Refusal} → ChainAdded s base n room p f unit t r → Does subscription_store (insert f x) s t r
    chain_does eu a = record { does = λ (st : SubscriptionStore s). new-chain st a.load a.wanted (rw eu at a.adds) }
