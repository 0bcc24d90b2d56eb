-- FOR THE PROOFS. The walks as the code makes them: below a path, in bytes, one node at a time, with the records counted. Assumes nothing.
use Rattle.std.specs.Prelude.{ℕ, suc, ◌+◌, ◌-◌, Bool, true, false, not, cond, ◌&&◌, ◌||◌, List, [], ◌∷◌, ◌++◌, ltb, leb}
use Rattle.level.specs.Kinds.{dollar}
use Rattle.topic.specs.Match.{takes, lead_dollar}
use Rattle.held.specs.Order.{Filter}
use Rattle.held.specs.Subscriptions.{listing_record}
use Rattle.held.specs.Retained.{Stored, unexpired, name_record}
use Rattle.held.specs.Forest.{Forest, leaf, fork}
use Rattle.held.specs.Walks.{Hit, miss, hit, hash, plus, kid, fits, onward}

-- The listing

-- the record of a path, where there are values
abbrev pub record_at : Filter → List ℕ → List ℕ
record_at p [] = []
record_at p (x ∷ v) = listing_record (p, x ∷ v)

abbrev pub hash_bytes : Filter → Hit ℕ → List ℕ
hash_bytes p miss = []
hash_bytes p (hit v k) = record_at (p ++ hash ∷ []) v

-- the listing's walk from a node at the path p, with the name's remaining levels
unfoldable pub walk_bytes : Filter → Filter → Hit ℕ → List ℕ
walk_bytes p [] miss = []
walk_bytes p [] (hit v k) = record_at p v ++ hash_bytes p (kid hash k)
walk_bytes p (n ∷ ns) miss = []
walk_bytes p (n ∷ ns) (hit v k) = hash_bytes p (kid hash k) ++ (walk_bytes (p ++ plus ∷ []) ns (kid plus k) ++ walk_bytes (p ++ n ∷ []) ns (kid n k))

unfoldable pub literal_bytes : Filter → Forest ℕ → List ℕ
literal_bytes [] F = []
literal_bytes (n ∷ ns) F = walk_bytes (n ∷ []) ns (kid n F)

unfoldable pub list_bytes : Filter → Forest ℕ → List ℕ
list_bytes n F = cond (lead_dollar n) (literal_bytes n F) (walk_bytes [] n (hit [] F))

-- its number of records
abbrev pub one_of : {X : Type 0} → List X → ℕ
one_of [] = 0
one_of (x ∷ v) = 1

abbrev pub hash_count : {X : Type 0} → Hit X → ℕ
hash_count miss = 0
hash_count (hit v k) = one_of v

unfoldable pub walk_count : {X : Type 0} → Filter → Hit X → ℕ
walk_count [] miss = 0
walk_count [] (hit v k) = one_of v + hash_count (kid hash k)
walk_count (n ∷ ns) miss = 0
walk_count (n ∷ ns) (hit v k) = hash_count (kid hash k) + (walk_count ns (kid plus k) + walk_count ns (kid n k))

unfoldable pub literal_count : {X : Type 0} → Filter → Forest X → ℕ
literal_count [] F = 0
literal_count (n ∷ ns) F = walk_count ns (kid n F)

unfoldable pub list_count : {X : Type 0} → Filter → Forest X → ℕ
list_count n F = cond (lead_dollar n) (literal_count n F) (walk_count n (hit [] F))

-- whether it would give a record at all
abbrev pub some_of : {X : Type 0} → List X → Bool
some_of [] = false
some_of (x ∷ v) = true

abbrev pub hash_hit : {X : Type 0} → Hit X → Bool
hash_hit miss = false
hash_hit (hit v k) = some_of v

unfoldable pub walk_hit : {X : Type 0} → Filter → Hit X → Bool
walk_hit [] miss = false
walk_hit [] (hit v k) = some_of v || hash_hit (kid hash k)
walk_hit (n ∷ ns) miss = false
walk_hit (n ∷ ns) (hit v k) = hash_hit (kid hash k) || (walk_hit ns (kid plus k) || walk_hit ns (kid n k))

unfoldable pub literal_hit : {X : Type 0} → Filter → Forest X → Bool
literal_hit [] F = false
literal_hit (n ∷ ns) F = walk_hit ns (kid n F)

unfoldable pub list_hit : {X : Type 0} → Filter → Forest X → Bool
list_hit n F = cond (lead_dollar n) (literal_hit n F) (walk_hit n (hit [] F))

-- The lookup and the page: of all records the walk numbers each, and gives those whose number lies in the page

abbrev pub in_page : (offset limit number : ℕ) → Bool
in_page offset limit i = leb offset i && ltb (i - offset) limit

-- the records of a list that lie in a page, where the first has the number i
abbrev pub paged : {A : Type 0} → (offset limit number : ℕ) → List A → List A
paged o l i [] = []
paged o l i (x ∷ xs) = cond (in_page o l i) (x ∷ paged o l (suc i) xs) (paged o l (suc i) xs)

-- what a node holds that has not expired
abbrev pub own_count : ℕ → List Stored → ℕ
own_count now [] = 0
own_count now (s ∷ v) = cond (unexpired now s) (suc (own_count now v)) (own_count now v)

abbrev pub own_bytes : (now offset limit number : ℕ) → Filter → List Stored → List ℕ
own_bytes now o l i p [] = []
own_bytes now o l i p (s ∷ v) =
    cond (unexpired now s) (cond (in_page o l i) (name_record now (p, s)) [] ++ own_bytes now o l (suc i) p v) (own_bytes now o l i p v)

-- along a row below the path p, barred as in `look`
unfoldable pub row_count : ℕ → Bool → Filter → Forest Stored → ℕ
row_count now barred fs leaf = 0
row_count now barred fs (fork t v k n) =
    cond (not (barred && dollar t) && fits fs t) (cond (takes (onward fs) []) (own_count now v) 0 + row_count now false (onward fs) k) 0
    + row_count now barred fs n

unfoldable pub row_bytes : (now offset limit number : ℕ) → Filter → Bool → Filter → Forest Stored → List ℕ
row_bytes now o l i p barred fs leaf = []
row_bytes now o l i p barred fs (fork t v k n) =
    cond (not (barred && dollar t) && fits fs t)
    (cond (takes (onward fs) []) (own_bytes now o l i (p ++ t ∷ []) v) []
    ++ row_bytes now o l (i + cond (takes (onward fs) []) (own_count now v) 0) (p ++ t ∷ []) false (onward fs) k)
    []
    ++ row_bytes now o l
    (i + cond (not (barred && dollar t) && fits fs t) (cond (takes (onward fs) []) (own_count now v) 0 + row_count now false (onward fs) k) 0)
    p barred fs n
