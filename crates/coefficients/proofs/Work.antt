-- What an accepted chain of operations says.
use Rattle.std.proofs.Common.{◌≡◌, ℕ, ℤ, refl, subst, arith}
use mathlib.Core.Option.{Option, none, some}
use Rattle.arithmetic.specs.Meaning.{Meaning}
use Rattle.arithmetic.specs.Operations.{sum, product, Split, with_error, sum_split, product_split, sum_error, product_error, size}
use Rattle.coefficients.specs.Row.{Cell, Trial, done, operation, new_cell}

pub passed : {A B R : Type 0} (i : ℕ) (o : Option A) (f : A → Trial B) (b : B) → operation i o f ≡ done b → ((a : A) → o ≡ some a → f a ≡ done b → R) → R
passed i none f b e k = let z : ◌≡◌ {A = ℕ} 0 1 = cc in absurd (omega arith)
passed i (some a) f b e k = k a refl e

pub record Parted (o : Option ℤ) (f : ℤ → ℤ) (s : Split) : Type 0 where
  pub main_is : o ≡ some s.main
  pub error_is : s.error ≡ f s.main

pub parted : (o : Option ℤ) (f : ℤ → ℤ) (s : Split) → with_error f o ≡ some s → Parted o f s
parted none f s e = let z : ◌≡◌ {A = ℕ} 0 1 = cc in absurd (omega arith)
parted (some r) f s e = subst (Parted (some r) f) k (record { main_is = refl; error_is = refl })
  where
    k : record { main = r; error = f r } ≡ s
    k = cc

-- an order that was worked
pub record Did (m : Meaning) (x : ℤ) (c c₀ c' : Cell) : Type 0 where
  pub p : ℤ
  pub β : ℤ
  pub σ : ℤ
  pub w : ℤ
  pub g : ℤ
  pub h : ℤ
  pub f : ℤ
  pub t : ℤ
  pub p_is : product m x c₀.S ≡ some p
  pub β_is : β ≡ product_error m x c₀.S p
  pub S_is : sum m c.S p ≡ some c'.S
  pub σ_is : σ ≡ sum_error c.S p c'.S
  pub w_is : sum m β σ ≡ some w
  pub g_is : sum m c.C w ≡ some g
  pub h_is : product m x c₀.C ≡ some h
  pub C_is : sum m g h ≡ some c'.C
  pub f_is : sum m c.E (size w) ≡ some f
  pub t_is : product m (size x) c₀.E ≡ some t
  pub E_is : sum m f t ≡ some c'.E

pub did : (m : Meaning) (x : ℤ) (c c₀ c' : Cell) → new_cell m x c c₀ ≡ done c' → Did m x c c₀ c'
unfolding new_cell product_split sum_split
did m x c c₀ c' e =
    passed 1 _ _ c' e (λ s₁ i₁ e₁.
    passed 2 _ _ c' e₁ (λ s₂ i₂ e₂.
    passed 3 _ _ c' e₂ (λ w i₃ e₃.
    passed 4 _ _ c' e₃ (λ g i₄ e₄.
    passed 5 _ _ c' e₄ (λ h i₅ e₅.
    passed 6 _ _ c' e₅ (λ c i₆ e₆.
    passed 7 _ _ c' e₆ (λ f i₇ e₇.
    passed 8 _ _ c' e₇ (λ t i₈ e₈.
    passed 9 _ _ c' e₈ (λ e i₉ e₉.
    let q₁ = parted _ _ _ i₁ in
    let q₂ = parted _ _ _ i₂ in
    ends s₁ s₂ w g h c f t e q₁ q₂ i₃ i₄ i₅ i₆ i₇ i₈ i₉ e₉)))))))))
  where
    ends : (s₁ s₂ : Split) (w g h c₆ f t e₉ : ℤ) → Parted (product m x c₀.S) (product_error m x c₀.S) s₁ → Parted (sum m c.S s₁.main) (sum_error c.S s₁.main) s₂ →
        sum m s₁.error s₂.error ≡ some w → sum m c.C w ≡ some g → product m x c₀.C ≡ some h → sum m g h ≡ some c₆ →
        sum m c.E (size w) ≡ some f → product m (size x) c₀.E ≡ some t → sum m f t ≡ some e₉ →
        done (record { S = s₂.main; C = c₆; E = e₉ }) ≡ done c' → Did m x c c₀ c'
    ends s₁ s₂ w g h c₆ f t e₉ q₁ q₂ i₃ i₄ i₅ i₆ i₇ i₈ i₉ l = subst (Did m x c c₀) end (record {
      p = s₁.main;
      β = s₁.error;
      σ = s₂.error;
      w = w;
      g = g;
      h = h;
      f = f;
      t = t;
      p_is = q₁.main_is;
      β_is = q₁.error_is;
      S_is = q₂.main_is;
      σ_is = q₂.error_is;
      w_is = i₃;
      g_is = i₄;
      h_is = i₅;
      C_is = i₆;
      f_is = i₇;
      t_is = i₈;
      E_is = i₉;
    })
      where
        end : record { S = s₂.main; C = c₆; E = e₉ } ≡ c'
        end = cc
