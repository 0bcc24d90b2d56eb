-- The nodes and cells of a forest are those that are counted from what it holds. Assumes nothing.
use mathlib.Core.Path.{◌≡◌, refl, sym, ap, ◌∙◌}
use Prim.Native.Nat.{ℕ, ◌+◌}
use mathlib.Core.Bool.{Bool, true, false, not, ◌&&◌, ◌||◌, true≢false}
use mathlib.Core.List.{List, [], ◌∷◌, ◌++◌, map, append_assoc}
use lib.ListN.{length, length-append, length-map}
use native.Mathlib.Omega.{arith}
use Rattle.level.specs.Kinds.{same}
use Rattle.held.specs.Order.{Level, Filter, same_filter, level_lt, filter_lt}
use Rattle.held.specs.Ascending.{member, Below, Asc}
use Rattle.held.specs.Room.{leads, all_leads, nodes_of, node_count, level_cells, last_level, sum_cells, cell_count}
use Rattle.held.specs.Forest.{Forest, leaf, fork, under, held, Over, Rows, Full}
use Rattle.held.specs.Edit.{paths, weigh_f, size_f, cells_f}
use Rattle.held.proofs.Orders.{lex_head, lex-tail, level_order, filter_order}
use Rattle.held.proofs.Stores.{null, Before, below-append, asc-append}
use Rattle.held.proofs.Sets.{member-sort, set-sort, set_ext}

-- the paths ascend
abbrev self : Filter → Filter
self f = f

abbrev pushed : Level → List Filter → List Filter
pushed t l = map (λ g. t ∷ g) l

below_pushed : (t : Level) (f : Filter) (l : List Filter) → Below filter_lt self f l → Below filter_lt self (t ∷ f) (pushed t l)
below_pushed t f [] h = tt
below_pushed t f (g ∷ l) h = (lex-tail level_order t t f g refl h.0, below_pushed t f l h.1)

over_pushed : (s t : Level) (f : Filter) (l : List Filter) → level_lt s t ≡ true → Below filter_lt self (s ∷ f) (pushed t l)
over_pushed s t f [] h = tt
over_pushed s t f (g ∷ l) h = (lex_head level_order s t f g h, over_pushed s t f l h)

asc_pushed : (t : Level) (l : List Filter) → Asc filter_lt self l → Asc filter_lt self (pushed t l)
asc_pushed t [] h = tt
asc_pushed t (g ∷ l) h = (below_pushed t g l h.0, asc_pushed t l h.1)

before_pushed : (t : Level) (l m : List Filter) → ((f : Filter) → Below filter_lt self (t ∷ f) m) → Before filter_lt self (pushed t l) m
before_pushed t [] m h = tt
before_pushed t (g ∷ l) m h = (h g, before_pushed t l m h)

module _ {X : Type 0} where
  nonempty-paths : (F : Forest X) → Below filter_lt self [] (paths F)
  unfolding paths
  nonempty-paths leaf = tt
  nonempty-paths (fork t v k n) = (refl, below-append self self filter_order [] (pushed t (paths k)) (paths n) (go (paths k)) (nonempty-paths n))
    where
      go : (l : List Filter) → Below filter_lt self [] (pushed t l)
      go [] = tt
      go (g ∷ l) = (refl, go l)

  over-paths : (s : Level) (f : Filter) (F : Forest X) → Over s F → Below filter_lt self (s ∷ f) (paths F)
  unfolding paths
  over-paths s f leaf o = tt
  over-paths s f (fork t v k n) o =
      (lex_head level_order s t f [] o.0, below-append self self filter_order (s ∷ f) (pushed t (paths k)) (paths n) (over_pushed s t f (paths k) o.0) (over-paths s f n o.1))

  asc-paths : (F : Forest X) → Rows F → Asc filter_lt self (paths F)
  unfolding paths
  asc-paths leaf r = tt
  asc-paths (fork t v k n) r = (
    below-append self self filter_order (t ∷ []) (pushed t (paths k)) (paths n) (below_pushed t [] (paths k) (nonempty-paths k)) (over-paths t [] n r.0),
    asc-append self self filter_order (pushed t (paths k)) (paths n) (asc_pushed t (paths k) (asc-paths k r.1)) (asc-paths n r.2) (before_pushed t (paths k) (paths n) (λ f. over-paths t f n r.0)),
  )

-- membership in each part
in-append : (q : Filter) (l m : List Filter) → member same_filter q (l ++ m) ≡ (member same_filter q l || member same_filter q m)
in-append q [] m = refl
in-append q (g ∷ l) m = go (same_filter q g) (in-append q l m)
  where
    go : (t : Bool) → member same_filter q (l ++ m) ≡ (member same_filter q l || member same_filter q m) → (t || member same_filter q (l ++ m)) ≡ ((t || member same_filter q l) || member same_filter q m)
    go true e = refl
    go false e = e

none_pushed : (t : Level) (l : List Filter) → member same_filter [] (pushed t l) ≡ false
none_pushed t [] = refl
none_pushed t (g ∷ l) = none_pushed t l

in_pushed : (h t : Level) (hs : Filter) (l : List Filter) → member same_filter (h ∷ hs) (pushed t l) ≡ (same h t && member same_filter hs l)
in_pushed h t hs l = go (same h t) refl l
  where
    go : (s : Bool) → same h t ≡ s → (l : List Filter) → member same_filter (h ∷ hs) (pushed t l) ≡ (s && member same_filter hs l)
    go true e [] = refl
    go true e (g ∷ l) = rw e (ap (λ (b : Bool). same_filter hs g || b) (go true e l))
    go false e [] = refl
    go false e (g ∷ l) = rw e (go false e l)

none_prefixes : (f : Filter) → member same_filter [] (leads f) ≡ false
none_prefixes [] = refl
none_prefixes (t ∷ f) = none_pushed t (leads f)

merge : (a s m n c : Bool) → (a || ((s && m) || ((c && a) || (s && n)))) ≡ (a || (s && (m || n)))
merge true s m n c = refl
merge false true true n c = refl
merge false true false n true = refl
merge false true false n false = refl
merge false false m n true = refl
merge false false m n false = refl

pick : (x y a b c : Bool) → (x || y) ≡ true → ((x && a) || (((y && a) || b) || c)) ≡ (a || (b || c))
pick true y true b c e = refl
pick true true false b c e = refl
pick true false false b c e = refl
pick false true true b c e = refl
pick false true false b c e = refl
pick false false a b c e = absurd (true≢false (sym e))

sum_pushed : (t : Level) (l : List Filter) → Below filter_lt self [] l → sum_cells (pushed t l) ≡ sum_cells l
sum_pushed t [] h = refl
sum_pushed t ([] ∷ l) h = absurd (true≢false (sym h.0))
sum_pushed t ((u ∷ f) ∷ l) h = ap (λ (c : ℕ). level_cells (last_level (u ∷ f)) + c) (sum_pushed t l h.1)

sum-append : (l m : List Filter) → sum_cells (l ++ m) ≡ sum_cells l + sum_cells m
sum-append [] m = omega arith
sum-append (f ∷ l) m = omega (arith, sum-append l m)

module _ {X : Type 0} where
  all_append : (l m : List (Filter × X)) → all_leads (l ++ m) ≡ all_leads l ++ all_leads m
  unfolding all_leads
  all_append [] m = refl
  all_append (p ∷ l) m = ap (λ (r : List Filter). leads p.0 ++ r) (all_append l m) ∙ sym (append_assoc (leads p.0) (all_leads l) (all_leads m))

  -- a path is a prefix of what stands at a node, or of what stands below it
  in_own : (q : Filter) (t : Level) (v : List X) → member same_filter q (all_leads (map (λ x. (t ∷ [], x)) v)) ≡ (not (null v) && same_filter q (t ∷ []))
  unfolding all_leads
  in_own q t [] = refl
  in_own q t (x ∷ v) = rw (in_own q t v) (go (same_filter q (t ∷ [])) (null v))
    where
      go : (a b : Bool) → (a || (not b && a)) ≡ a
      go true b = refl
      go false true = refl
      go false false = refl

  in-under : (h t : Level) (hs : Filter) (l : List (Filter × X))
      → member same_filter (h ∷ hs) (all_leads (map (under t) l)) ≡ ((not (null l) && same_filter (h ∷ hs) (t ∷ [])) || (same h t && member same_filter hs (all_leads l)))
  unfolding all_leads
  in-under h t hs [] = sym (go (same h t))
    where
      go : (a : Bool) → (a && false) ≡ false
      go true = refl
      go false = refl
  in-under h t hs (p ∷ l) =
      rw (in-append (h ∷ hs) (pushed t (leads p.0)) (all_leads (map (under t) l)), in_pushed h t hs (leads p.0), in-under h t hs l, in-append hs (leads p.0) (all_leads l))
      (merge (same_filter (h ∷ hs) (t ∷ [])) (same h t) (member same_filter hs (leads p.0)) (member same_filter hs (all_leads l)) (not (null l)))

  none-all : (l : List (Filter × X)) → member same_filter [] (all_leads l) ≡ false
  unfolding all_leads
  none-all [] = refl
  none-all (p ∷ l) = in-append [] (leads p.0) (all_leads l) ∙ ap (λ (b : Bool). b || member same_filter [] (all_leads l)) (none_prefixes p.0) ∙ none-all l

  none-paths : (F : Forest X) → member same_filter [] (paths F) ≡ false
  unfolding paths
  none-paths leaf = refl
  none-paths (fork t v k n) = in-append [] (pushed t (paths k)) (paths n) ∙ ap (λ (b : Bool). b || member same_filter [] (paths n)) (none_pushed t (paths k)) ∙ none-paths n

  -- a full forest that holds nothing has no node
  null-held : (F : Forest X) → Full F → null (held F) ≡ true → F ≡ leaf
  unfolding held
  null-held leaf f e = refl
  null-held (fork t (x ∷ v) k n) f e = absurd (true≢false (sym e))
  null-held (fork t [] k n) f e = absurd (f.0 refl (null-held k f.1 (go (held k) e)))
    where
      go : (l : List (Filter × X)) → null (map (under t) l ++ held n) ≡ true → null l ≡ true
      go [] e = refl
      go (p ∷ l) e = absurd (true≢false (sym e))

  full_some : (t : Level) (v : List X) (k n : Forest X) → Full (fork t v k n) → (not (null v) || not (null (held k))) ≡ true
  full_some t (x ∷ v) k n f = refl
  full_some t [] k n f = go (null (held k)) refl
    where
      go : (b : Bool) → null (held k) ≡ b → not b ≡ true
      go true e = absurd (f.0 refl (null-held k f.1 e))
      go false e = refl

  -- the paths are the prefixes of what is held
  in-paths : (F : Forest X) → Full F → (q : Filter) → member same_filter q (all_leads (held F)) ≡ member same_filter q (paths F)
  unfolding all_leads held paths
  in-paths F f [] = none-all (held F) ∙ sym (none-paths F)
  in-paths leaf f (h ∷ hs) = refl
  in-paths (fork t v k n) f (h ∷ hs) =
      let O : List (Filter × X) = map (λ x. (t ∷ [], x)) v in
      let U : List (Filter × X) = map (under t) (held k) in
      ap (member same_filter (h ∷ hs)) (all_append O (U ++ held n) ∙ ap (λ (r : List Filter). all_leads O ++ r) (all_append U (held n)))
      ∙ in-append (h ∷ hs) (all_leads O) (all_leads U ++ all_leads (held n))
      ∙ ap (λ (b : Bool). member same_filter (h ∷ hs) (all_leads O) || b) (in-append (h ∷ hs) (all_leads U) (all_leads (held n)))
      ∙ rw (in_own (h ∷ hs) t v, in-under h t hs (held k), in-paths k f.1 hs, in-paths n f.2 (h ∷ hs))
      (pick (not (null v)) (not (null (held k))) (same_filter (h ∷ hs) (t ∷ [])) (same h t && member same_filter hs (paths k)) (member same_filter (h ∷ hs) (paths n)) (full_some t v k n f)
      ∙ ap (λ (b : Bool). same_filter (h ∷ hs) (t ∷ []) || b)
      (sym (in-append (h ∷ hs) (pushed t (paths k)) (paths n) ∙ ap (λ (b : Bool). b || member same_filter (h ∷ hs) (paths n)) (in_pushed h t hs (paths k)))))

  pub nodes_are : (F : Forest X) → Rows F → Full F → nodes_of (held F) ≡ paths F
  unfolding nodes_of
  nodes_are F r f =
      set_ext filter_order (nodes_of (held F)) (paths F) (set-sort filter_order (all_leads (held F))) (asc-paths F r)
      (λ q. member-sort filter_order q (all_leads (held F)) ∙ in-paths F f q)

  length-paths : (F : Forest X) → length (paths F) ≡ size_f F
  unfolding paths weigh_f
  length-paths leaf = refl
  length-paths (fork t v k n) =
      simp (length-append, length-map) (omega (arith, length-paths k, length-paths n))

  pub node-count : (F : Forest X) → Rows F → Full F → node_count (held F) ≡ size_f F
  unfolding node_count nodes_of
  node-count F r f = ap length (nodes_are F r f) ∙ length-paths F

  sum-paths : (F : Forest X) → sum_cells (paths F) ≡ cells_f F
  unfolding paths weigh_f
  sum-paths leaf = refl
  sum-paths (fork t v k n) =
      omega (arith, sum-append (pushed t (paths k)) (paths n), sum_pushed t (paths k) (nonempty-paths k), sum-paths k, sum-paths n)

  pub cell-count : (F : Forest X) → Rows F → Full F → cell_count (held F) ≡ cells_f F
  unfolding cell_count nodes_of
  cell-count F r f = ap sum_cells (nodes_are F r f) ∙ sum-paths F
