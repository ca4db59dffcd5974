-- TwoSum, of Knuth and Møller: with x the rounded sum of a and b and z the rounding of x − a, the rounding of (a − (x − z))
-- + (b − z) is the exact error a + b − x. The error has p digits: it is a multiple of the finer last digit of a and b, and
-- at most as large as the operand that has it, because the other operand is a number that near to the sum. Where b is no
-- larger than a, x − a is exact; where it is larger and the sum is smaller than a, the sum is exact; and else x is no
-- smaller than a, so that z − x is exact, and so are a − (x − z) and b − z, one as an error of a sum and the other because z
-- is near b. So the last sum is the error itself, and exact.
use Rattle.std.proofs.Common.{◌≡◌, ℕ, zero, suc, ◌+◌, ◌*◌, ◌^◌, ◌<◌, ◌≤◌, ◌⊎◌, ℤ, pos, negsuc, ◌+ℤ◌, ◌-ℤ◌, neg_ℤ, sym, refl, subst, inl, inr, arith, pow_pos, pow_mono, pow-add}
use Rattle.std.proofs.lemmas.Bool.{cases_lt}
use borrow.Author.Differences.{up, down, same_in, same_out, sum_is_lem, neg_is}
use Rattle.rounding.proofs.BinaryNearest.{Near, Under, Within, Over, Div, Rep, Nearest, div_neg, div_down, div_gap, pow_next, rep_in, exact, keeps_low, keeps_div, coarse, half, cases_size}

-- s is the sum of a and b; so b is s less a
abbrev pub Sum : ℤ → ℤ → ℤ → Type 0
Sum a b s = up s + down a + down b ≡ down s + up a + up b

pub sub_is : (x y : ℤ) → Sum y (x -ℤ y) x
sub_is x y = omega (arith, sum_is_lem x (neg_ℤ y), neg_is y)

pub div_sum : (m : ℕ) (a b s : ℤ) → Sum a b s → Div m a → Div m b → Div m s
div_sum m a b s e x y = record { u = x.u + y.u; d = x.d + y.d; is = omega arith }

pub div_rest : (m : ℕ) (a b s : ℤ) → Sum a b s → Div m a → Div m s → Div m b
div_rest m a b s e x y = record { u = y.u + x.d; d = y.d + x.u; is = omega arith }

-- the size of b is at most that of a
abbrev pub Below : ℤ → ℤ → Type 0
Below b a = up b + down b ≤ up a + down a

pub one_side : (x : ℤ) → (up x ≡ 0) ⊎ (down x ≡ 0)
one_side (pos n) = inr refl
one_side (negsuc n) = inl refl

pub under_below : (c : ℕ) (a b : ℤ) → Below b a → Under c a → Under c b
under_below c a b h u =
    elim (one_side a) [ inl e ↦ omega arith | inr e ↦ omega arith ]

-- ---- the error of a rounded sum
error_at : (q g : ℕ) (a b s x e : ℤ) → Sum a b s → Sum x e s → Div (2 ^ g) a → Div (2 ^ g) b → Rep (suc q) b → Under (2 ^ (suc q + g)) a → Nearest (suc q) s x
    → Rep (suc q) e
error_at q g a b s x e i j da db fb u n =
    let ds = div_sum (2 ^ g) a b s i da db in
    let c = n.best b (2 ^ (suc q + g)) fb (omega arith) in
    rep_in (suc q) g e (omega arith) (div_rest (2 ^ g) x e s j (keeps_div q g s x ds n) ds) (omega arith)

pub error_rep : (q : ℕ) (a b s x e : ℤ) → Sum a b s → Sum x e s → Rep (suc q) a → Rep (suc q) b → Nearest (suc q) s x → Rep (suc q) e
error_rep q a b s x e i j fa fb n =
    elim (cases_lt fb.at fa.at) [
      | inr h ↦ error_at q fa.at a b s x e i j fa.div (div_down fa.at fb.at b h fb.div) fb fa.lt n
      | inl h ↦ error_at q fb.at b a s x e (omega arith) j fb.div (div_down fb.at fa.at a (omega arith) fa.div) fa fb.lt n
    ]

-- ---- where b is no larger than a, the rounded sum less a is a number of p digits
-- x - a is b where the sum is exact
rest_same : (q : ℕ) (a b s x d : ℤ) → Sum a b s → Sum a d x → x ≡ s → Rep (suc q) b → Rep (suc q) d
rest_same q a b s x d i j e f = subst (Rep (suc q)) (same_in b d (omega (arith, same_out x s e))) f

over_pow : (q k : ℕ) (s : ℤ) → Over (2 ^ (suc q + k)) s → Over (2 ^ (q + suc k)) s
over_pow q k s = subst (λ (n : ℕ). Over (2 ^ n) s) (omega arith)

finer : (q : ℕ) (a b s x d : ℤ) (fa : Rep (suc q) a) (fb : Rep (suc q) b) → Sum a b s → Sum a d x → fb.at < fa.at → Nearest (suc q) s x → Rep (suc q) d
finer q a b s x d fa fb i j h n =
    let g = fb.at in
    let da = div_down g fa.at a (omega arith) fa.div in
    let ds = div_sum (2 ^ g) a b s i da fb.div in
    elim (cases_size (2 ^ (suc q + g)) s) [
      | inl w ↦ rest_same q a b s x d i j (exact (suc q) s x (rep_in (suc q) g s (omega arith) ds w) n) fb
      | inr o ↦
          let c = n.best a (2 ^ (suc q + g)) fa (omega arith) in
          let dx = coarse q (suc g) s x n (over_pow q g s o) in
          rep_in (suc q) (suc g) d (omega arith)
          (div_rest (2 ^ suc g) a d x j (div_down (suc g) fa.at a (omega arith) fa.div) dx)
          (omega (arith, pow_next (suc q) g))
    ]

coarser : (q : ℕ) (a b s x d : ℤ) (fa : Rep (suc q) a) (fb : Rep (suc q) b) → Sum a b s → Sum a d x → fa.at ≤ fb.at → Below b a → Nearest (suc q) s x → Rep (suc q) d
coarser q a b s x d fa fb i j h l n =
    let g = fa.at in
    let db = div_down g fb.at b h fb.div in
    let ub = under_below (2 ^ (suc q + g)) a b l fa.lt in
    let gap = div_gap (2 ^ g) (2 ^ suc q) b db (subst (λ (c : ℕ). Under c b) (pow-add 2 (suc q) g) ub) in
    let near = half (suc q) g s x (omega arith) (omega (arith, pow_next (suc q) g)) n in
    let ds = div_sum (2 ^ g) a b s i fa.div db in
    rep_in (suc q) g d (omega arith)
    (div_rest (2 ^ g) a d x j fa.div (keeps_div q g s x ds n))
    (omega (arith, pow-add 2 (suc q) g))

pub fast : (q : ℕ) (a b s x d : ℤ) → Sum a b s → Sum a d x → Rep (suc q) a → Rep (suc q) b → Below b a → Nearest (suc q) s x → Rep (suc q) d
fast q a b s x d i j fa fb l n =
    elim (cases_lt fb.at fa.at) [
      | inl h ↦ finer q a b s x d fa fb i j h n
      | inr h ↦ coarser q a b s x d fa fb i j h l n
    ]

-- ---- b less a number near to it
-- an exponent of b is 0, or as large as it can be
pub record Normal (q : ℕ) (x : ℤ) : Type 0 where
  pub at : ℕ
  pub div : Div (2 ^ at) x
  pub lt : Under (2 ^ (suc q + at)) x
  pub least : (at ≡ 0) ⊎ Over (2 ^ (q + at)) x

over_or_under : (c : ℕ) (x : ℤ) → Under c x ⊎ Over c x
over_or_under c x =
    elim (cases_lt (up x) (down x + c)) [
      | inr l ↦ inr (inl l)
      | inl g ↦ elim (cases_lt (down x) (up x + c)) [
        | inr l ↦ inr (inr l)
        | inl h ↦ inl (omega arith)
      ]
    ]

normal_from : (q k : ℕ) (x : ℤ) → Div (2 ^ k) x → Under (2 ^ (suc q + k)) x → Normal q x
normal_from q zero x d u = record { at = 0; div = d; lt = u; least = inl refl }
normal_from q (suc k) x d u =
    elim (over_or_under (2 ^ (q + suc k)) x) [
      | inr o ↦ record { at = suc k; div = d; lt = u; least = inr o }
      | inl l ↦ normal_from q k x (div_down k (suc k) x (omega arith) d) (subst (λ (n : ℕ). Under (2 ^ n) x) (omega arith) l)
    ]

pub normal : (q : ℕ) (x : ℤ) → Rep (suc q) x → Normal q x
normal q x f = normal_from q f.at x f.div f.lt

div_one : (x : ℤ) → Div (2 ^ 0) x
div_one x = record { u = up x; d = down x; is = omega arith }

near_b : (q j : ℕ) (a b s x d z w : ℤ) → Sum a b s → Sum a d x → Sum z w b → Below a b → Rep (suc q) b → Under (2 ^ (suc q + j)) b
    → Nearest (suc q) s x → Nearest (suc q) d z → Near (2 ^ j) d b × Within (2 * 2 ^ j) w
near_b q j a b s x d z w i k l h fb u n m =
    let ua = under_below (2 ^ (suc q + j)) b a h u in
    let near = half (suc q) j s x (omega arith) (omega (arith, pow_next (suc q) j)) n in
    let nb : Near (2 ^ j) d b = omega arith in
    let nz = m.best b (2 ^ j) fb nb in
    (nb, omega arith)

pub rest_rep : (q : ℕ) (a b s x d z w : ℤ) → 0 < q → Sum a b s → Sum a d x → Sum z w b → Below a b → Rep (suc q) b
    → Nearest (suc q) s x → Nearest (suc q) d z → Rep (suc q) w
rest_rep q a b s x d z w Q i k l h fb n m = go nb.at nb.div nb.lt nb.least
  where
    nb : Normal q b
    nb = normal q b fb

    go : (j : ℕ) → Div (2 ^ j) b → Under (2 ^ (suc q + j)) b → (j ≡ 0) ⊎ Over (2 ^ (q + j)) b → Rep (suc q) w
    go zero db u o =
        let f = near_b q 0 a b s x d z w i k l h fb u n m in
        let e : 2 ≤ 2 ^ (suc q + 0) = pow_mono {i = 1} {j = suc q + 0} (omega arith) in
        rep_in (suc q) 0 w (omega arith) (div_one w) (omega arith)
    go (suc j) db u (inl e) = absurd (omega arith)
    go (suc j) db u (inr o) =
        let f = near_b q (suc j) a b s x d z w i k l h fb u n m in
        let e : 2 ^ suc (suc j) ≤ 2 ^ (suc q + j) = pow_mono (omega arith) in
        let dz = coarse q j d z m (large o f.0) in
        rep_in (suc q) j w (omega arith) (div_rest (2 ^ j) z w b l dz (div_down j (suc j) b (omega arith) db)) (omega (arith, f.1))
      where
        large : Over (2 ^ (q + suc j)) b → Near (2 ^ suc j) d b → Over (2 ^ (q + j)) d
        large (inl o) g = inl (omega (arith, pow_next q j, pow_mono {i = suc j} {j = q + j} (omega arith)))
        large (inr o) g = inr (omega (arith, pow_next q j, pow_mono {i = suc j} {j = q + j} (omega arith)))

-- ---- the six operations
pub rep_neg : (p : ℕ) (x : ℤ) → Rep p x → Rep p (neg_ℤ x)
rep_neg p x f = record { at = f.at; div = div_neg (2 ^ f.at) x f.div; lt = omega (arith, neg_is x) }

pub rep_zero : (p : ℕ) → Rep p (pos 0)
rep_zero p = record { at = 0; div = div_one (pos 0); lt = omega (arith, pow_pos (p + 0)) }

-- the operations after z, once each is exact
finish : (p : ℕ) (a b x z u v w y : ℤ) → Rep p (x -ℤ z) → Rep p (a -ℤ (x -ℤ z)) → Rep p (b -ℤ z) → Rep p ((a +ℤ b) -ℤ x)
    → Nearest p (x -ℤ z) u → Nearest p (a -ℤ u) v → Nearest p (b -ℤ z) w → Nearest p (v +ℤ w) y → x +ℤ y ≡ a +ℤ b
finish p a b x z u v w y fu fv fw fe nu nv nw ny =
    let eu : u ≡ x -ℤ z = exact p (x -ℤ z) u fu nu in
    let ev : v ≡ a -ℤ (x -ℤ z) = exact p (a -ℤ (x -ℤ z)) v fv (subst (λ (t : ℤ). Nearest p (a -ℤ t) v) eu nv) in
    let ew : w ≡ b -ℤ z = exact p (b -ℤ z) w fw nw in
    let es : (a +ℤ b) -ℤ x ≡ v +ℤ w = same_in ((a +ℤ b) -ℤ x) (v +ℤ w)
    (omega (arith, sub_is (a +ℤ b) x, sum_is_lem a b, sum_is_lem v w, sub_is x z, sub_is a (x -ℤ z), sub_is b z, same_out v (a -ℤ (x -ℤ z)) ev, same_out w (b -ℤ z) ew)) in
    let ey : y ≡ (a +ℤ b) -ℤ x = exact p ((a +ℤ b) -ℤ x) y fe (subst (λ (t : ℤ). Nearest p t y) (sym es) ny) in
    same_in (x +ℤ y) (a +ℤ b) (omega (arith, sum_is_lem x y, sub_is (a +ℤ b) x, same_out y ((a +ℤ b) -ℤ x) ey))

-- where x - a is exact
with_z : (q : ℕ) (a b x z u v w y : ℤ) → Rep (suc q) a → Rep (suc q) b → Nearest (suc q) (a +ℤ b) x → Rep (suc q) (x -ℤ a)
    → Nearest (suc q) (x -ℤ a) z → Nearest (suc q) (x -ℤ z) u → Nearest (suc q) (a -ℤ u) v → Nearest (suc q) (b -ℤ z) w → Nearest (suc q) (v +ℤ w) y
    → x +ℤ y ≡ a +ℤ b
with_z q a b x z u v w y fa fb nx fz nz nu nv nw ny =
    let p = suc q in
    let ez : z ≡ x -ℤ a = exact p (x -ℤ a) z fz nz in
    let oz = same_out z (x -ℤ a) ez in
    let fe = error_rep q a b (a +ℤ b) x ((a +ℤ b) -ℤ x) (sum_is_lem a b) (sub_is (a +ℤ b) x) fa fb nx in
    let e1 : a ≡ x -ℤ z = same_in a (x -ℤ z) (omega (arith, sub_is x z, sub_is x a)) in
    let e2 : pos 0 ≡ a -ℤ (x -ℤ z) = same_in (pos 0) (a -ℤ (x -ℤ z)) (omega (arith, sub_is a (x -ℤ z), sub_is x z, sub_is x a)) in
    let e3 : (a +ℤ b) -ℤ x ≡ b -ℤ z = same_in ((a +ℤ b) -ℤ x) (b -ℤ z) (omega (arith, sub_is (a +ℤ b) x, sum_is_lem a b, sub_is b z, sub_is x a)) in
    finish p a b x z u v w y (subst (Rep p) e1 fa) (subst (Rep p) e2 (rep_zero p)) (subst (Rep p) e3 fe) fe nu nv nw ny

-- where the sum is smaller than both, it is exact
small_at : (q g : ℕ) (a b s : ℤ) → Sum a b s → Div (2 ^ g) a → Div (2 ^ g) b → Under (2 ^ (suc q + g)) s → Rep (suc q) s
small_at q g a b s i da db u = record { at = g; div = div_sum (2 ^ g) a b s i da db; lt = u }

small_sum : (q : ℕ) (a b s : ℤ) → Sum a b s → Rep (suc q) a → Rep (suc q) b → Below s a → Below s b → Rep (suc q) s
small_sum q a b s i fa fb h k =
    elim (cases_lt fb.at fa.at) [
      | inr l ↦ small_at q fa.at a b s i fa.div (div_down fa.at fb.at b l fb.div) (under_below (2 ^ (suc q + fa.at)) a s h fa.lt)
      | inl l ↦ small_at q fb.at a b s i (div_down fb.at fa.at a (omega arith) fa.div) fb.div (under_below (2 ^ (suc q + fb.at)) b s k fb.lt)
    ]

-- rounding keeps the order of sizes with a number of p digits
pub rep_size : (p : ℕ) (a : ℤ) → Rep p a → Rep p (pos (up a + down a)) × Rep p (neg_ℤ (pos (up a + down a)))
rep_size p a f =
    elim (one_side a) [
      | inr e ↦
          let i : a ≡ pos (up a + down a) = same_in a (pos (up a + down a)) (omega arith) in
          (subst (Rep p) i f, rep_neg p (pos (up a + down a)) (subst (Rep p) i f))
      | inl e ↦
          let i : neg_ℤ a ≡ pos (up a + down a) = same_in (neg_ℤ a) (pos (up a + down a)) (omega (arith, neg_is a)) in
          (subst (Rep p) i (rep_neg p a f), rep_neg p (pos (up a + down a)) (subst (Rep p) i (rep_neg p a f)))
    ]

pub over_size : (c : ℕ) (x : ℤ) → c ≤ up x + down x → Over c x
over_size c x h = elim (one_side x) [ inl e ↦ inr (omega arith) | inr e ↦ inl (omega arith) ]

pub size_over : (c : ℕ) (x : ℤ) → Over c x → c ≤ up x + down x
size_over c x (inl h) = omega arith
size_over c x (inr h) = omega arith

pub keeps_size : (p : ℕ) (a s x : ℤ) → Rep p a → Nearest p s x → Below a s → Below a x
keeps_size p a s x f n h =
    let r = rep_size p a f in
    size_over (up a + down a) x (keeps_low p (up a + down a) s x r.0 r.1 n (over_size (up a + down a) s h))

pub two_sum : (q : ℕ) (a b x z u v w y : ℤ) → 0 < q → Rep (suc q) a → Rep (suc q) b → Nearest (suc q) (a +ℤ b) x
    → Nearest (suc q) (x -ℤ a) z → Nearest (suc q) (x -ℤ z) u → Nearest (suc q) (a -ℤ u) v → Nearest (suc q) (b -ℤ z) w → Nearest (suc q) (v +ℤ w) y
    → x +ℤ y ≡ a +ℤ b
two_sum q a b x z u v w y Q fa fb nx nz nu nv nw ny =
    elim (cases_lt (up a + down a) (up b + down b)) [
      | inr h ↦ with_z q a b x z u v w y fa fb nx (fast q a b s x (x -ℤ a) (sum_is_lem a b) (sub_is x a) fa fb h nx) nz nu nv nw ny
      | inl h ↦ elim (cases_lt (up s + down s) (up a + down a)) [
        | inl l ↦
            let e : x ≡ s = exact p s x (small_sum q a b s (sum_is_lem a b) fa fb (omega arith) (omega arith)) nx in
            let e1 : b ≡ x -ℤ a = same_in b (x -ℤ a) (omega (arith, sub_is x a, sum_is_lem a b, same_out x s e)) in
            with_z q a b x z u v w y fa fb nx (subst (Rep p) e1 fb) nz nu nv nw ny
        | inr g ↦
            let g' : Below (neg_ℤ a) x = omega (arith, neg_is a, keeps_size p a s x fa nx g) in
            let d = x -ℤ a in
            let fz : Rep p (z -ℤ x) = fast q x (neg_ℤ a) d z (z -ℤ x) (sum_is_lem x (neg_ℤ a)) (sub_is z x) nx.rep (rep_neg p a fa) g' nz in
            let e1 : neg_ℤ (z -ℤ x) ≡ x -ℤ z = same_in (neg_ℤ (z -ℤ x)) (x -ℤ z) (omega (arith, neg_is (z -ℤ x), sub_is z x, sub_is x z)) in
            let fe : Rep p (d -ℤ z) = error_rep q x (neg_ℤ a) d z (d -ℤ z) (sum_is_lem x (neg_ℤ a)) (sub_is d z) nx.rep (rep_neg p a fa) nz in
            let e2 : neg_ℤ (d -ℤ z) ≡ a -ℤ (x -ℤ z) = same_in (neg_ℤ (d -ℤ z)) (a -ℤ (x -ℤ z)) (omega (arith, neg_is (d -ℤ z), sub_is d z, sub_is x a, sub_is a (x -ℤ z), sub_is x z)) in
            finish p a b x z u v w y (subst (Rep p) e1 (rep_neg p (z -ℤ x) fz)) (subst (Rep p) e2 (rep_neg p (d -ℤ z) fe))
            (rest_rep q a b s x d z (b -ℤ z) Q (sum_is_lem a b) (sub_is x a) (sub_is b z) (omega arith) fb nx nz)
            (error_rep q a b s x (s -ℤ x) (sum_is_lem a b) (sub_is s x) fa fb nx) nu nv nw ny
      ]
    ]
  where
    p : ℕ
    p = suc q

    s : ℤ
    s = a +ℤ b
