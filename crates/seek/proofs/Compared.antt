-- What the answer of `compare` says of two levels. Assumes nothing.
use mathlib.Core.Path.{◌≡◌, refl, sym, ◌∙◌}
use mathlib.Core.Bool.{Bool, true, false, cond, true≢false}
use Rattle.level.specs.Kinds.{same}
use Rattle.held.specs.Order.{Level, level_lt}
use Rattle.held.proofs.Orders.{level_order, eq-same}
use Rattle.std.specs.declared.cmp.Ordering.TheVariants.{Less, Equal, Greater}
use Rattle.forest.specs.Compare.{order_of}

pub order-less : (a b : Level) → order_of a b ≡ Less → level_lt a b ≡ true
order-less a b e = go (same a b) (level_lt a b) refl e
  where
    go : (s t : Bool) → level_lt a b ≡ t → cond s Equal (cond t Less Greater) ≡ Less → t ≡ true
    go true t p q = cc
    go false true p q = refl
    go false false p q = cc

pub order-equal : (a b : Level) → order_of a b ≡ Equal → a ≡ b
order-equal a b e = go (same a b) (level_lt a b) refl e
  where
    go : (s t : Bool) → same a b ≡ s → cond s Equal (cond t Less Greater) ≡ Equal → a ≡ b
    go true t p q = level_order.eq_true a b p
    go false true p q = cc
    go false false p q = cc

pub order_greater : (a b : Level) → order_of a b ≡ Greater → level_lt b a ≡ true
order_greater a b e = go (same a b) (level_lt a b) (level_lt b a) refl refl refl e
  where
    go : (s t r : Bool) → same a b ≡ s → level_lt a b ≡ t → level_lt b a ≡ r → cond s Equal (cond t Less Greater) ≡ Greater → r ≡ true
    go true t r p q w z = cc
    go false true r p q w z = cc
    go false false true p q w z = refl
    go false false false p q w z =
        let e : a ≡ b = level_order.total a b q w in
        absurd (true≢false (sym (eq-same level_order a b e) ∙ p))
