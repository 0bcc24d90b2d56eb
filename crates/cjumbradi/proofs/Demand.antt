-- Demand 3 about the functions that a broker calls, in either form, tested or known: what a listing, a lookup and a page give after a
-- run; that two runs with the same calls for each pair, or each name, in the same order and none refused for room give the same
-- bytes; and that the two stores agree. The theorems of `trie`, `retain` and `agree`, said of what C is told. Assumes nothing.
use Rattle.std.specs.Prelude.{Err, Ok, Result, ⊤}
use Rattle.refusal.specs.declared.Refusal.{Refusal}
use Rattle.retain.specs.declared.Page.{Page}
use mathlib.Core.Path.{◌≡◌, refl, sym, ap, subst, ◌∙◌}
use Prim.Native.Nat.{ℕ, ◌≤◌}
use mathlib.Core.Bool.{Bool, true, false, not, cond, ◌||◌, true≢false}
use mathlib.Core.List.{List}
use mathlib.Core.Option.{some}
use lib.Dec.{eqb, ltb}
use lib.ListN.{length}
use borrow.Author.Tests.{ltb-false}
use Rattle.refusal.specs.Refusals.{Told, ◌at◌}
use Rattle.refusal.specs.declared.Refusal.TheVariants.{BadSize}
use Rattle.lent.specs.Parts.{part, patch}
use Rattle.level.specs.Levels.{split}
use Rattle.topic.specs.Answers.{checked}
use Rattle.held.specs.Room.{Room, in_range}
use Rattle.held.specs.Subscriptions.{Call, SameCalls}
use Rattle.held.specs.Retained.{Stored, unexpired, Call as Change, SameCalls as SameChanges}
use Rattle.held.specs.Ascending.{passed}
use Rattle.held.specs.Caught.{subscribed, Caught}
use Rattle.held.specs.Found.{retained_for, Found, FoundPage}
use Rattle.region.specs.Layout.{needed_bytes, header_bytes}
use Rattle.region.specs.Opening.{kind_byte, open_rules, nothing, opened_as}
use Rattle.region.specs.declared.Kind.{Kind}
use Rattle.region.specs.declared.Kind.TheVariants.{Subscriptions, Retained}
use Rattle.edit.specs.declared.Listed.{Listed}
use Rattle.edit.specs.Given.{listed}
use Rattle.edit.specs.Calls.{StoreKind}
use Rattle.edit.specs.Runs.{refused_for_room, Runs, Empty}
use Rattle.edit.specs.Runs.{ended as run-ended, called as run-called}
use Rattle.edit.specs.Given.{given_bytes, enough_room}
use Rattle.edit.proofs.RunLaws.{calls_do}
use Rattle.trie.specs.Calls.{subscription_store}
use Rattle.trie.specs.Listings.{Lists, ListsKnown}
use Rattle.trie.proofs.Demand.{runs_caught, runs_list, opened_empty}
use Rattle.retain.specs.Lookups.{paged}
use Rattle.retain.specs.Calls.{retained_store}
use Rattle.retain.specs.Lookups.{Looks, LooksKnown, page_bytes_given, page_enough_room, Pages, PagesKnown}
use Rattle.retain.proofs.Demand.{runs_found, runs-paged, runs-look, runs-page, opened_empty as opened-empty-names}
use Rattle.agree.specs.Agree.{Agree}
use Rattle.agree.proofs.AgreeLaws.{runs_agree}
use Rattle.cjumbradi.specs.Calls.{of_checked}
use Rattle.cjumbradi.specs.Stores.{of_changed, of_listed, of_paged, Tells}
use Rattle.cjumbradi.specs.Runs.{Opened, EitherForm, tested, known, no_room, Made, ended, called, bytes_given, too_short}
use Rattle.cjumbradi.proofs.Tellings.{number_some}

-- a call that tests its region does on a store what its known form does
module _ {A T : Type 0} (of : A → T) {P Q : A → Type 0} (weaker : (r : A) → P r → Q r) where
  as_known : {t : T} → EitherForm of P Q t → Tells of Q t
  as_known (known a) = a
  as_known (tested a) = record { answer = a.answer; promised = weaker a.answer a.promised; said = a.said }

-- calls through C are a run
for-room : (r : Result ℕ Refusal) (w : Told) → w ≡ of_changed r → no_room w ≡ false → refused_for_room r ≡ false
for-room (Ok n) w e h = refl
for-room (Err x) w e h = ap no_room (sym e) ∙ h

pub made_runs : {C H : Type 0} (k : StoreKind C H) {cs : List C} {s t : List ℕ} → Made k cs s t → Runs k cs s t
made_runs k ended = run-ended
made_runs k (called {w = w} a n rest) =
    let b = as_known of_changed (λ r. calls_do k) a in
    run-called b.promised (for-room b.answer w b.said n) (made_runs k rest)

-- an opening that returned 0
opened_long : (r : Room) (s : List ℕ) → of_checked (checked (open_rules r s)) ≡ (0 at 0) → (in_range r ≡ true) × (needed_bytes r ≤ length s)
opened_long r s e = go (in_range r) refl (ltb (length s) (needed_bytes r)) refl e
  where
    go : (i : Bool) → in_range r ≡ i → (l : Bool) → ltb (length s) (needed_bytes r) ≡ l → of_checked (cond (not i || l) (Err BadSize) (Ok tt)) ≡ (0 at 0) → (in_range r ≡ true) × (needed_bytes r ≤ length s)
    go true a false b e = (a, ltb-false (length s) (needed_bytes r) b)
    go true a true b e = absurd (true≢false (ap (λ (t : Told). eqb t.number 10) e))
    go false a l b e = absurd (true≢false (ap (λ (t : Told). eqb t.number 10) e))

opened-as : (kind : Kind) (r : Room) (s : List ℕ) → of_checked (checked (open_rules r s)) ≡ (0 at 0) → opened_as (checked (open_rules r s)) kind r s ≡ patch 0 (header_bytes (kind_byte kind) r nothing) s
opened-as kind r s e = go (checked (open_rules r s)) e
  where
    go : (v : Result ⊤ Refusal) → of_checked v ≡ (0 at 0) → opened_as v kind r s ≡ patch 0 (header_bytes (kind_byte kind) r nothing) s
    go (Ok _) e = refl
    go (Err x) e = absurd (true≢false (sym (ap (λ (t : Told). eqb t.number 0) e) ∙ number_some x))

opened-subscriptions : {s : List ℕ} → Opened Subscriptions s → Empty subscription_store s
opened-subscriptions o =
    let l = opened_long o.room o.lent o.returned in
    rw (o.left ∙ opened-as Subscriptions o.room o.lent o.returned) (opened_empty o.room o.lent l.0 l.1)

opened-retained : {s : List ℕ} → Opened Retained s → Empty retained_store s
opened-retained o =
    let l = opened_long o.room o.lent o.returned in
    rw (o.left ∙ opened-as Retained o.room o.lent o.returned) (opened-empty-names o.room o.lent l.0 l.1)

-- an answer of which 0 was told, and what is told of an answer
given-told : (r : Result Listed Refusal) {bytes records : ℕ} → (0 at bytes, records) ≡ of_listed r → r ≡ listed bytes records
given-told (Ok l) {bytes} {records} e =
    let x : bytes ≡ l.bytes = ap (λ (w : Told × ℕ). w.0.place) e in
    let y : records ≡ l.records = ap (λ (w : Told × ℕ). w.1) e in
    rw (x, y)
given-told (Err x) e = absurd (true≢false (ap (λ (w : Told × ℕ). eqb w.0.number 0) e ∙ number_some x))

room-told : (r : Result Listed Refusal) → enough_room r ≡ not (too_short (of_listed r).0)
room-told (Ok l) = refl
room-told (Err x) = refl

bytes-told : (r : Result Listed Refusal) (after : List ℕ) → bytes_given (of_listed r).0 after ≡ given_bytes r after
bytes-told (Ok l) after = refl
bytes-told (Err x) after = rw (number_some x)

-- two answers that are the same where both buffers have room, or neither has, by what is told of them
module _ {A T : Type 0} (of : A → T) (first : T → Told) (enough : A → Bool) (gave : A → List ℕ → List ℕ) (room : (r : A) → enough r ≡ not (too_short (first (of r))))
    (bytes : (r : A) (after : List ℕ) → bytes_given (first (of r)) after ≡ gave r after) where
  both_told : {P Q : A → Type 0} {w v : T} → Tells of P w → Tells of Q v → (after after' : List ℕ) → too_short (first w) ≡ too_short (first v)
      → ((r q : A) → P r → Q q → enough r ≡ enough q → (r ≡ q) × (gave r after ≡ gave q after')) → (w ≡ v) × (bytes_given (first w) after ≡ bytes_given (first v) after')
  both_told {w = w} {v = v} a b after after' s h =
      let short : T → Bool = λ t. too_short (first t) in
      let z =
      h a.answer b.answer a.promised b.promised (room a.answer ∙ ap not (ap short (sym a.said) ∙ s ∙ ap short b.said) ∙ sym (room b.answer)) in (
        a.said ∙ ap of z.0 ∙ sym b.said,
        ap (λ (t : T). bytes_given (first t) after) a.said ∙ bytes a.answer after ∙ z.1 ∙ sym (bytes b.answer after') ∙ ap (λ (t : T). bytes_given (first t) after') (sym b.said),
      )

-- Subscriptions
module _ {cs : List Call} {s t : List ℕ} (o : Opened Subscriptions s) (x : Made subscription_store cs s t) where
  -- which pairs a listing has: exactly those that the calls left subscribed and whose filter takes the name
  pub told_caught : (name before : List ℕ) {after : List ℕ} {bytes records : ℕ}
      → EitherForm of_listed (Lists t name before after) (ListsKnown t name before after) (0 at bytes, records) → Caught cs name (part 0 bytes after) records
  told_caught name before {after} a =
      let b = as_known of_listed (λ r l. l.on_store) a in
      runs_caught (opened-subscriptions o) (made_runs subscription_store x) name before (subst (ListsKnown t name before after) (given-told b.answer b.said) b.promised)

  -- two runs with the same calls for each pair, in the same order
  module _ {ds : List Call} {u v : List ℕ} (p : Opened Subscriptions u) (y : Made subscription_store ds u v) (same : SameCalls cs ds) where
    pub told_list : (name before before' : List ℕ) {after after' : List ℕ} {w z : Told × ℕ} → EitherForm of_listed (Lists t name before after) (ListsKnown t name before after) w
        → EitherForm of_listed (Lists v name before' after') (ListsKnown v name before' after') z → too_short w.0 ≡ too_short z.0
        → (w ≡ z) × (bytes_given w.0 after ≡ bytes_given z.0 after')
    told_list name before before' {after} {after'} a b e =
        both_told of_listed (λ w. w.0) enough_room given_bytes room-told bytes-told (as_known of_listed (λ r l. l.on_store) a) (as_known of_listed (λ r l. l.on_store) b) after after' e
        (λ r q. runs_list (opened-subscriptions o) (opened-subscriptions p) (made_runs subscription_store x) (made_runs subscription_store y) same name)

-- Retained names
page-told : (r : Result Page Refusal) {bytes records follows : ℕ} → (0 at bytes, records, follows) ≡ of_paged r → r ≡ paged bytes records (eqb follows 1)
page-told (Ok p) {bytes} {records} {follows} e =
    let x : bytes ≡ p.bytes = ap (λ (w : Told × ℕ × ℕ). w.0.place) e in
    let y : records ≡ p.records = ap (λ (w : Told × ℕ × ℕ). w.1) e in
    let z : follows ≡ cond p.more 1 0 = ap (λ (w : Told × ℕ × ℕ). w.2) e in
    rw (x, y, z, one p.more)
  where
    one : (m : Bool) → eqb (cond m 1 0) 1 ≡ m
    one true = refl
    one false = refl
page-told (Err x) e = absurd (true≢false (ap (λ (w : Told × ℕ × ℕ). eqb w.0.number 0) e ∙ number_some x))

page_room-told : (r : Result Page Refusal) → page_enough_room r ≡ not (too_short (of_paged r).0)
page_room-told (Ok p) = refl
page_room-told (Err x) = refl

page-bytes-told : (r : Result Page Refusal) (after : List ℕ) → bytes_given (of_paged r).0 after ≡ page_bytes_given r after
page-bytes-told (Ok p) after = refl
page-bytes-told (Err x) after = rw (number_some x)

module _ {cs : List Change} {s t : List ℕ} (o : Opened Retained s) (x : Made retained_store cs s t) where
  -- which names a lookup and a page have: exactly those that the calls left held, that have not expired, and that the filter takes
  pub told_found : (filter : List ℕ) (clock : ℕ) (before : List ℕ) {after : List ℕ} {bytes records : ℕ}
      → EitherForm of_listed (Looks t filter clock before after) (LooksKnown t filter clock before after) (0 at bytes, records) → Found cs filter clock (part 0 bytes after) records
  told_found filter clock before {after} a =
      let b = as_known of_listed (λ r l. l.on_store) a in
      runs_found (opened-retained o) (made_runs retained_store x) filter clock before (subst (LooksKnown t filter clock before after) (given-told b.answer b.said) b.promised)

  pub told-paged : (clock offset limit : ℕ) (before : List ℕ) {after : List ℕ} {bytes records follows : ℕ}
      → EitherForm of_paged (Pages t clock offset limit before after) (PagesKnown t clock offset limit before after) (0 at bytes, records, follows)
      → FoundPage cs clock offset limit (part 0 bytes after) records (eqb follows 1)
  told-paged clock offset limit before {after} a =
      let b = as_known of_paged (λ r l. l.on_store) a in
      runs-paged (opened-retained o) (made_runs retained_store x) clock offset limit before (subst (PagesKnown t clock offset limit before after) (page-told b.answer b.said) b.promised)

  -- two runs with the same calls for each name, in the same order, where a sweep counts for every name
  module _ {ds : List Change} {u v : List ℕ} (p : Opened Retained u) (y : Made retained_store ds u v) (same : SameChanges cs ds) where
    pub told-look : (filter : List ℕ) (clock : ℕ) (before before' : List ℕ) {after after' : List ℕ} {w z : Told × ℕ}
        → EitherForm of_listed (Looks t filter clock before after) (LooksKnown t filter clock before after) w
        → EitherForm of_listed (Looks v filter clock before' after') (LooksKnown v filter clock before' after') z → too_short w.0 ≡ too_short z.0
        → (w ≡ z) × (bytes_given w.0 after ≡ bytes_given z.0 after')
    told-look filter clock before before' {after} {after'} a b e =
        both_told of_listed (λ w. w.0) enough_room given_bytes room-told bytes-told (as_known of_listed (λ r l. l.on_store) a) (as_known of_listed (λ r l. l.on_store) b) after after' e
        (λ r q. runs-look (opened-retained o) (opened-retained p) (made_runs retained_store x) (made_runs retained_store y) same filter clock)

    pub told-page : (clock offset limit : ℕ) (before before' : List ℕ) {after after' : List ℕ} {w z : Told × ℕ × ℕ}
        → EitherForm of_paged (Pages t clock offset limit before after) (PagesKnown t clock offset limit before after) w
        → EitherForm of_paged (Pages v clock offset limit before' after') (PagesKnown v clock offset limit before' after') z → too_short w.0 ≡ too_short z.0
        → (w ≡ z) × (bytes_given w.0 after ≡ bytes_given z.0 after')
    told-page clock offset limit before before' {after} {after'} a b e =
        both_told of_paged (λ w. w.0) page_enough_room page_bytes_given page_room-told page-bytes-told (as_known of_paged (λ r l. l.on_store) a) (as_known of_paged (λ r l. l.on_store) b) after after' e
        (λ r q. runs-page (opened-retained o) (opened-retained p) (made_runs retained_store x) (made_runs retained_store y) same clock offset limit)

-- Both stores: a name that the calls left held and that has not expired is in the lookup of a filter exactly when the filter, left
-- subscribed, is in the listing for the name
pub told_agree : {cs : List Change} {ds : List Call} {s t u v : List ℕ} → Opened Retained s → Made retained_store cs s t → Opened Subscriptions u → Made subscription_store ds u v
    → (name filter : List ℕ) (clock value : ℕ) {stays : Stored} → passed (unexpired clock) (retained_for (split name) cs) ≡ some stays → subscribed (split filter, value) ds ≡ true
    → (before before' : List ℕ) {after after' : List ℕ} {bytes records bytes' records' : ℕ}
    → EitherForm of_listed (Looks t filter clock before after) (LooksKnown t filter clock before after) (0 at bytes, records)
    → EitherForm of_listed (Lists v name before' after') (ListsKnown v name before' after') (0 at bytes', records')
    → Agree name filter clock after bytes after' bytes'
told_agree {t = t} {v = v} o x p y name filter clock value e g before before' {after} {after'} k l =
    let c = as_known of_listed (λ r h. h.on_store) k in
    let d = as_known of_listed (λ r h. h.on_store) l in
    runs_agree (opened-retained o) (opened-subscriptions p) (made_runs retained_store x) (made_runs subscription_store y) name filter clock value e g before before'
    (subst (LooksKnown t filter clock before after) (given-told c.answer c.said) c.promised)
    (subst (ListsKnown v name before' after') (given-told d.answer d.said) d.promised)
