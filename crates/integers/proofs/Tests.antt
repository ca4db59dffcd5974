-- Tests that were passed or failed, and what a conditional then gives.
use Rattle.std.proofs.Common.{◌≡◌, ℕ, ◌<◌, ◌≤◌, Bool, true, false, cond, ◌&&◌, ◌||◌, T, eqb, ltb, leb, ◌⊎◌, refl, ap, subst, inl, inr, arith, le→leb, eqb→eq, ltb→lt, lt→ltb, leb→le}
use mathlib.Core.Option.{none, some}
use lib.Dec.{eqb_refl}

pub some_from : {A : Type 0} (b : Bool) (x y : A) → cond b (some x) none ≡ some y → T b × (x ≡ y)
some_from true x y e = (tt, cc)
some_from false x y e = let z : ◌≡◌ {A = ℕ} 0 1 = cc in absurd (omega arith)

pub either : (a b : Bool) → T (a || b) → T a ⊎ T b
either true b t = inl tt
either false b t = inr t

pub both : (a b : Bool) → T (a && b) → T a × T b
both true b t = (tt, t)
both false b t = absurd t

-- two tests that pass together are one
pub decided : (b c : Bool) → (T b → T c) → (T c → T b) → b ≡ c
decided true true f g = refl
decided true false f g = absurd (f tt)
decided false true f g = absurd (g tt)
decided false false f g = refl

pub leb_yes : (a b : ℕ) → a ≤ b → leb a b ≡ true
leb_yes a b h = decided (leb a b) true (λ t. tt) (λ t. le→leb a b h)

pub leb_no : (a b : ℕ) → (a ≤ b → ⊥) → leb a b ≡ false
leb_no a b h = decided (leb a b) false (λ t. h (leb→le a b t)) (λ t. absurd t)

pub eqb_no : (a b : ℕ) → (a ≡ b → ⊥) → eqb a b ≡ false
eqb_no a b h = decided (eqb a b) false (λ t. h (eqb→eq a b t)) (λ t. absurd t)

pub ltb_yes : (a b : ℕ) → a < b → ltb a b ≡ true
ltb_yes a b h = decided (ltb a b) true (λ t. tt) (λ t. lt→ltb a b h)

pub ltb_no : (a b : ℕ) → b ≤ a → ltb a b ≡ false
ltb_no a b h = decided (ltb a b) false (λ t. let l = ltb→lt a b t in absurd (omega arith)) (λ t. absurd t)

-- the branch that a conditional takes
pub taken : {X : Type 0} (t : Bool) (x y : X) → t ≡ true → cond t x y ≡ x
taken t x y e = ap (λ (t : Bool). cond t x y) e

pub passed : {X : Type 0} (t : Bool) (x y : X) → t ≡ false → cond t x y ≡ y
passed t x y e = ap (λ (t : Bool). cond t x y) e
