-- Split, after Veltkamp: a number a of p digits becomes the sum of a1, its leading p − s digits, and a2 of s − 1 digits with
-- a sign of its own. With γ the rounding of (2^s + 1) · a and δ that of a − γ, a1 is γ + δ and a2 is a − a1. Both γ and δ
-- are multiples of 2^s units of a's last digit, being so large that rounding leaves no finer ones, and γ + δ differs from a
-- by at most 2^(s−1) such units; so the last two operations are exact. Where the size of a is the least power of two at its
-- exponent, γ and δ are exact themselves.
use Rattle.std.proofs.Common.{◌≡◌, ℕ, suc, ◌+◌, ◌-◌, ◌*◌, ◌^◌, ◌<◌, ◌≤◌, ◌⊎◌, ℤ, neg_ℤ, sym, ap, ◌∙◌, subst, inl, inr, le_refl, mul-le-mul_right, mul_assoc, lt_of_mul-lt-mul_right, arith, pow_pos, pow_mono, pow-add}
use Rattle.std.proofs.lemmas.Bool.{cases_eq}
use borrow.Author.Differences.{up, down, same_in, same_out, neg_is}
use Rattle.rounding.proofs.BinaryNearest.{Near, Under, Within, Over, Div, Nearest, times, times_is, div_neg, div_down, div_gap, div_times, split_pow, pow_next, rep_in, rep_pow, pow_div, exact, coarse, half}
use Rattle.rounding.proofs.TwoSum.{Sum, div_sum, div_rest}

pub pow_le : (m n : ℕ) → m ≤ n → 2 ^ m ≤ 2 ^ n
pow_le m n h = pow_mono h

-- the two parts of a, in units of 2 ^ i, for p = q + 1 digits and s = r + 1
pub record Parts (q r i : ℕ) (a a1 a2 : ℤ) : Type 0 where
  pub sum : Sum a1 a2 a
  pub div1 : Div (2 ^ (suc r + i)) a1
  pub le1 : Within (2 ^ (suc q + i)) a1
  pub div2 : Div (2 ^ i) a2
  pub le2 : Within (2 ^ (r + i)) a2

-- two multiples of m that differ do so by m at least
pub step : (u d c m : ℕ) → d * m + c * m < u * m → d * m + c * m + m ≤ u * m
step u d c m h =
    let k : (d + c) * m < u * m = omega arith in
    let l : suc (d + c) * m ≤ u * m = mul-le-mul_right m (lt_of_mul-lt-mul_right m k) in
    omega arith

-- |a| is the least that it can be, or the next multiple of 2 ^ i
least_or : (q i : ℕ) (a : ℤ) → Div (2 ^ i) a → Over (2 ^ (q + i)) a
    → ((up a ≡ down a + 2 ^ (q + i)) ⊎ (down a ≡ up a + 2 ^ (q + i))) ⊎ ((down a + 2 ^ (q + i) + 2 ^ i ≤ up a) ⊎ (up a + 2 ^ (q + i) + 2 ^ i ≤ down a))
least_or q i a d (inl o) =
    elim (cases_eq (up a) (down a + 2 ^ (q + i))) [
      | inl e ↦ inl (inl e)
      | inr n ↦
          let l = step d.u d.d (2 ^ q) (2 ^ i) (omega (arith, d.is, pow-add 2 q i)) in
          inr (inl (omega (arith, d.is, pow-add 2 q i)))
    ]
least_or q i a d (inr o) =
    elim (cases_eq (down a) (up a + 2 ^ (q + i))) [
      | inl e ↦ inl (inr e)
      | inr n ↦
          let l = step d.d d.u (2 ^ q) (2 ^ i) (omega (arith, d.is, pow-add 2 q i)) in
          inr (inr (omega (arith, d.is, pow-add 2 q i)))
    ]

-- the rounded sum of γ and δ, and what is left of a
last : (q r i : ℕ) (a g δ e a1 f a2 : ℤ) → r < q → Div (2 ^ i) a → Under (2 ^ (suc q + i)) a → Div (2 ^ (suc r + i)) g → Div (2 ^ (suc r + i)) δ
    → Sum g δ e → Near (2 ^ (r + i)) a e → Nearest (suc q) e a1 → Sum a1 f a → Nearest (suc q) f a2 → Parts q r i a a1 a2
last q r i a g δ e a1 f a2 S da ua dg dδ se near n1 sf n2 =
    let p = suc q in
    let de = div_sum (2 ^ (suc r + i)) g δ e se dg dδ in
    let c = 2 ^ (suc q + i - (suc r + i)) in
    let M = 2 ^ (suc r + i) in
    let E : 2 ^ (suc q + i) ≡ c * M = split_pow (suc r + i) (suc q + i) (omega arith) in
    let g = div_gap M (suc c) e de (omega (arith, pow_le (r + i) (suc r + i) (omega arith))) in
    let w : Within (2 ^ (suc q + i)) e = omega arith in
    let e1 : a1 ≡ e = exact p e a1 (rep_in p i e (omega arith) (div_down i (suc r + i) e (omega arith) de) w) n1 in
    let o1 = same_out a1 e e1 in
    let d1 : Div (2 ^ (suc r + i)) a1 = subst (Div (2 ^ (suc r + i))) (sym e1) de in
    let df : Div (2 ^ i) f = div_rest (2 ^ i) a1 f a sf (div_down i (suc r + i) a1 (omega arith) d1) da in
    let wf : Within (2 ^ (r + i)) f = omega arith in
    let e2 : a2 ≡ f = exact p f a2 (rep_in p i f (omega arith) df (omega (arith, pow_le (r + i) (suc q + i) (omega arith)))) n2 in
    let o2 = same_out a2 f e2 in
    record { sum = omega arith; div1 = d1; le1 = omega arith; div2 = subst (Div (2 ^ i)) (sym e2) df; le2 = omega arith }

-- a times 2 ^ s + 1
abbrev pub Factor : ℕ → ℤ → ℤ → Type 0
Factor r a c = Sum a (times (2 ^ suc r) a) c

pub pow_at : (m k n : ℕ) → m + k ≡ n → 2 ^ n ≡ 2 ^ m * 2 ^ k
pow_at m k n e = ap (λ (t : ℕ). 2 ^ t) (sym e) ∙ pow-add 2 m k

-- h = a * 2 ^ s, in units of 2 ^ (s + i)
pub record Shifted (q r i : ℕ) (h : ℤ) : Type 0 where
  pub most_up : up h + 2 ^ (suc r + i) ≤ down h + 2 ^ (suc q + (suc r + i))
  pub most_down : down h + 2 ^ (suc r + i) ≤ up h + 2 ^ (suc q + (suc r + i))
  pub div : Div (2 ^ (suc r + i)) h

shifted : (q r i : ℕ) (a : ℤ) → Div (2 ^ i) a → Under (2 ^ (suc q + i)) a → Shifted q r i (times (2 ^ suc r) a)
shifted q r i a da ua =
    let S = 2 ^ suc r in
    let ga = div_gap (2 ^ i) (2 ^ suc q) a da (subst (λ (t : ℕ). Under t a) (pow-add 2 (suc q) i) ua) in
    let x : (up a + 2 ^ i) * S ≤ (down a + 2 ^ suc q * 2 ^ i) * S = mul-le-mul_right S ga.0 in
    let y : (down a + 2 ^ i) * S ≤ (up a + 2 ^ suc q * 2 ^ i) * S = mul-le-mul_right S ga.1 in
    let e : 2 ^ (suc r + i) ≡ 2 ^ i * S = pow_at i (suc r) (suc r + i) (omega arith) in
    let f : 2 ^ (suc q + (suc r + i)) ≡ 2 ^ suc q * 2 ^ i * S = pow-add 2 (suc q) (suc r + i) ∙ ap (λ (t : ℕ). 2 ^ suc q * t) e ∙ sym (mul_assoc (2 ^ suc q) (2 ^ i) S) in
    let hs = times_is S a in
    record { most_up = omega arith; most_down = omega arith; div = subst (λ (t : ℕ). Div t (times S a)) (sym e) (div_times (2 ^ i) S a da) }

over_shifted : (n r i c : ℕ) (a : ℤ) → (down a + 2 ^ n + c * 2 ^ i ≤ up a) ⊎ (up a + 2 ^ n + c * 2 ^ i ≤ down a)
    → (down (times (2 ^ suc r) a) + 2 ^ (n + suc r) + c * 2 ^ (suc r + i) ≤ up (times (2 ^ suc r) a)) ⊎ (up (times (2 ^ suc r) a) + 2 ^ (n + suc r) + c * 2 ^ (suc r + i) ≤ down (times (2 ^ suc r) a))
over_shifted n r i c a (inl h) =
    let S = 2 ^ suc r in
    let x : (down a + 2 ^ n + c * 2 ^ i) * S ≤ up a * S = mul-le-mul_right S h in
    let e : 2 ^ (suc r + i) ≡ 2 ^ i * S = pow_at i (suc r) (suc r + i) (omega arith) in
    inl (omega (arith, times_is S a, pow-add 2 n (suc r), ap (λ (t : ℕ). c * t) e))
over_shifted n r i c a (inr h) =
    let S = 2 ^ suc r in
    let x : (up a + 2 ^ n + c * 2 ^ i) * S ≤ down a * S = mul-le-mul_right S h in
    let e : 2 ^ (suc r + i) ≡ 2 ^ i * S = pow_at i (suc r) (suc r + i) (omega arith) in
    inr (omega (arith, times_is S a, pow-add 2 n (suc r), ap (λ (t : ℕ). c * t) e))

-- a + h is as large as h, which has a's sign
over_factor : (n : ℕ) (a h c : ℤ) (k : ℕ) → Sum a h c → Over k a → (down a ≤ up a → down h + n ≤ up h) → (up a ≤ down a → up h + n ≤ down h) → Over n c
over_factor n a h c k e (inl o) f g = let x = f (omega arith) in inl (omega arith)
over_factor n a h c k e (inr o) f g = let x = g (omega arith) in inr (omega arith)

signed : (n : ℕ) (a : ℤ) (m : ℕ) → 0 < m → Over n (times m a) → 0 < n → (down a ≤ up a → down (times m a) + n ≤ up (times m a)) × (up a ≤ down a → up (times m a) + n ≤ down (times m a))
signed n a m M (inl o) N = ((λ _. o), λ l. absurd (let x : up a * m ≤ down a * m = mul-le-mul_right m l in omega (arith, times_is m a)))
signed n a m M (inr o) N = ((λ l. absurd (let x : down a * m ≤ up a * m = mul-le-mul_right m l in omega (arith, times_is m a))), λ _. o)

over_h : (q r i : ℕ) (a : ℤ) → Over (2 ^ (q + i)) a → Over (2 ^ (q + (suc r + i))) (times (2 ^ suc r) a)
over_h q r i a o = go (over_shifted (q + i) r i 0 a (start o))
  where
    E : 2 ^ (q + (suc r + i)) ≡ 2 ^ (q + i + suc r)
    E = ap (λ (t : ℕ). 2 ^ t) (omega arith)

    start : Over (2 ^ (q + i)) a → (down a + 2 ^ (q + i) + 0 * 2 ^ i ≤ up a) ⊎ (up a + 2 ^ (q + i) + 0 * 2 ^ i ≤ down a)
    start (inl x) = inl (omega arith)
    start (inr x) = inr (omega arith)

    go : (down (times (2 ^ suc r) a) + 2 ^ (q + i + suc r) + 0 * 2 ^ (suc r + i) ≤ up (times (2 ^ suc r) a)) ⊎ (up (times (2 ^ suc r) a) + 2 ^ (q + i + suc r) + 0 * 2 ^ (suc r + i) ≤ down (times (2 ^ suc r) a)) → Over (2 ^ (q + (suc r + i))) (times (2 ^ suc r) a)
    go (inl x) = inl (omega (arith, E))
    go (inr x) = inr (omega (arith, E))

over_c : (q r i : ℕ) (a c : ℤ) → Over (2 ^ (q + i)) a → Factor r a c → Over (2 ^ (q + (suc r + i))) c
over_c q r i a c o fc =
    let g = signed (2 ^ (q + (suc r + i))) a (2 ^ suc r) (pow_pos (suc r)) (over_h q r i a o) (pow_pos (q + (suc r + i))) in
    over_factor (2 ^ (q + (suc r + i))) a (times (2 ^ suc r) a) c (2 ^ (q + i)) fc o g.0 g.1

-- δ where |a| is above 2 ^ (q + i)
delta_more : (q r i : ℕ) (a c g d δ : ℤ) → Factor r a c → Near (2 ^ (suc r + i)) c g → Sum g d a → Nearest (suc q) d δ
    → (down a + 2 ^ (q + i) + 2 ^ i ≤ up a) ⊎ (up a + 2 ^ (q + i) + 2 ^ i ≤ down a) → Div (2 ^ (suc r + i)) δ
delta_more q r i a c g d δ fc nc sd nδ o = coarse q (suc r + i) d δ nδ (go (over_shifted (q + i) r i 1 a (start o)))
  where
    E : 2 ^ (q + (suc r + i)) ≡ 2 ^ (q + i + suc r)
    E = ap (λ (t : ℕ). 2 ^ t) (omega arith)

    start : (down a + 2 ^ (q + i) + 2 ^ i ≤ up a) ⊎ (up a + 2 ^ (q + i) + 2 ^ i ≤ down a) → (down a + 2 ^ (q + i) + 1 * 2 ^ i ≤ up a) ⊎ (up a + 2 ^ (q + i) + 1 * 2 ^ i ≤ down a)
    start (inl x) = inl (omega arith)
    start (inr x) = inr (omega arith)

    go : (down (times (2 ^ suc r) a) + 2 ^ (q + i + suc r) + 1 * 2 ^ (suc r + i) ≤ up (times (2 ^ suc r) a)) ⊎ (up (times (2 ^ suc r) a) + 2 ^ (q + i + suc r) + 1 * 2 ^ (suc r + i) ≤ down (times (2 ^ suc r) a)) → Over (2 ^ (q + (suc r + i))) d
    go (inl x) = inr (omega (arith, E))
    go (inr x) = inl (omega (arith, E))

-- δ where |a| is 2 ^ (q + i): γ and δ are exact
delta_least : (q r i : ℕ) (a c g d δ : ℤ) → suc r ≤ q → Factor r a c → Nearest (suc q) c g → Sum g d a → Nearest (suc q) d δ → Div (2 ^ (suc r + i)) (times (2 ^ suc r) a)
    → (up a ≡ down a + 2 ^ (q + i)) ⊎ (down a ≡ up a + 2 ^ (q + i)) → Div (2 ^ (suc r + i)) δ
delta_least q r i a c g d δ S fc ng sd nδ dh e =
    let p = suc q in
    let T = 2 ^ suc r in
    let h = times T a in
    let da : Div (2 ^ (q + i)) a = pow_div (q + i) (q + i) a (le_refl (q + i)) e in
    let dh1 : Div (2 ^ (q + i)) h = div_down (q + i) (q + i + suc r) h (omega arith) (subst (λ (t : ℕ). Div t h) (sym (pow-add 2 (q + i) (suc r))) (div_times (2 ^ (q + i)) T a da)) in
    let dc : Div (2 ^ (q + i)) c = div_sum (2 ^ (q + i)) a h c fc da dh1 in
    let ec : g ≡ c = exact p c g (rep_in p (q + i) c (omega arith) dc (bound e)) ng in
    let ed : neg_ℤ h ≡ d = same_in (neg_ℤ h) d (omega (arith, neg_is h, same_out g c ec)) in
    let eδ : δ ≡ d = exact p d δ (rep_pow p (q + i + suc r) d (omega arith) (power e (same_out (neg_ℤ h) d ed))) nδ in
    subst (Div (2 ^ (suc r + i))) (ed ∙ sym eδ) (div_neg (2 ^ (suc r + i)) h dh)
  where
    B : 2 * 2 ^ (q + i + suc r) ≤ 2 ^ (suc q + (q + i))
    B = omega (arith, pow_le (suc (q + i + suc r)) (suc q + (q + i)) (omega arith))

    C : 2 ^ (q + i) ≤ 2 ^ (q + i + suc r)
    C = pow_le (q + i) (q + i + suc r) (omega arith)

    bound : (up a ≡ down a + 2 ^ (q + i)) ⊎ (down a ≡ up a + 2 ^ (q + i)) → Within (2 ^ (suc q + (q + i))) c
    bound (inl e) = omega (arith, times_is (2 ^ suc r) a, pow-add 2 (q + i) (suc r), B, C, ap (λ (t : ℕ). t * 2 ^ suc r) e)
    bound (inr e) = omega (arith, times_is (2 ^ suc r) a, pow-add 2 (q + i) (suc r), B, C, ap (λ (t : ℕ). t * 2 ^ suc r) e)

    power : (up a ≡ down a + 2 ^ (q + i)) ⊎ (down a ≡ up a + 2 ^ (q + i)) → (up (neg_ℤ (times (2 ^ suc r) a)) ≡ up d) × (down (neg_ℤ (times (2 ^ suc r) a)) ≡ down d)
        → (up d ≡ down d + 2 ^ (q + i + suc r)) ⊎ (down d ≡ up d + 2 ^ (q + i + suc r))
    power (inl e) o = inr (omega (arith, neg_is (times (2 ^ suc r) a), times_is (2 ^ suc r) a, pow-add 2 (q + i) (suc r), ap (λ (t : ℕ). t * 2 ^ suc r) e))
    power (inr e) o = inl (omega (arith, neg_is (times (2 ^ suc r) a), times_is (2 ^ suc r) a, pow-add 2 (q + i) (suc r), ap (λ (t : ℕ). t * 2 ^ suc r) e))

pub split : (q r i : ℕ) (a c g d δ e a1 f a2 : ℤ) → suc r ≤ q → Div (2 ^ i) a → Under (2 ^ (suc q + i)) a → Over (2 ^ (q + i)) a
    → Factor r a c → Nearest (suc q) c g → Sum g d a → Nearest (suc q) d δ → Sum g δ e → Nearest (suc q) e a1 → Sum a1 f a → Nearest (suc q) f a2 → Parts q r i a a1 a2
split q r i a c g d δ e a1 f a2 S da ua oa fc ng sd nδ se n1 sf n2 =
    let p = suc q in
    let s = suc r in
    let sh = shifted q r i a da ua in
    let nc : Near (2 ^ (s + i)) c g = half p (s + i) c g (omega arith) (omega (arith, sh, pow_next p (s + i), pow_le (p + i) (p + (s + i)) (omega arith))) ng in
    let dg : Div (2 ^ (s + i)) g = coarse q (s + i) c g ng (over_c q r i a c oa fc) in
    let E : 2 ^ (p + suc (r + i)) ≡ 2 ^ (p + (s + i)) = ap (λ (t : ℕ). 2 ^ t) (omega arith) in
    let nd : Near (2 ^ (r + i)) d δ = half p (r + i) d δ (omega arith) (omega (arith, sh, E)) nδ in
    let dδ : Div (2 ^ (s + i)) δ = elim (least_or q i a da oa) [
      | inl m ↦ delta_least q r i a c g d δ S fc ng sd nδ sh.div m
      | inr m ↦ delta_more q r i a c g d δ fc nc sd nδ m
    ] in
    last q r i a g δ e a1 f a2 (omega arith) da ua dg dδ se (omega arith) n1 sf n2
