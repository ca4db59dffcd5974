-- What a state holds of the zeros then held: their count, and a row in which every cell holds what it should of the exact S of
-- its order. Every call keeps it: an accepted addition by one zero more, an accepted clearing from the start, and every other
-- call because it leaves row and count.
use Rattle.std.proofs.Common.{◌≡◌, ℕ, suc, ◌<◌, ◌≤◌, min, Bool, true, false, cond, ◌&&◌, T, eqb, ltb, leb, List, [], ◌∷◌, ◌++◌, length, ℤ, pos, refl, ◌∙◌, arith, ltb→lt, length-append}
use lib.Signed.{le_z}
use Rattle.arithmetic.specs.Meaning.{Admission, number, not_admitted, Number}
use Rattle.arithmetic.specs.Operations.{in_limits}
use Rattle.arithmetic.specs.Rules.{Rules}
use Rattle.coefficients.specs.Row.{Trial, done, stopped, Update, written, refused_at, row_after}
use Rattle.coefficients.specs.Closing.{Closed, Verdict, verdict}
use Rattle.coefficients.specs.Calls.{Making, State, Call, Step, step, refuse, add, clear, ask, issue, mark, withdraw, add_updated, add_admitted, ask_closed, mark_judged, mark_closed, order_checked, mark_admitted}
use Rattle.coefficients.specs.Book.{accepted, admitted, held_after}
use Rattle.coefficients.proofs.Rows.{RowHolds, new_holds, add_holds}

pub record StateHolds (b : Making) (zs : List ℤ) (s : State) : Type 0 where
  pub held_is : s.held ≡ length zs
  pub few : length zs ≤ 64
  pub row_holds : RowHolds b.meaning b.K zs s.row

by_test : (t : Bool) (x y : Step) (P : Step → Type 0) → (T t → P x) → P y → P (cond t x y)
by_test true x y P f g = f tt
by_test false x y P f g = g

-- a call that leaves the zeros
abbrev Leaves : State → Step → Type 0
Leaves s st = (st.then.row ≡ s.row) × (st.then.held ≡ s.held)

left : (b : Making) (zs : List ℤ) (s : State) (st : Step) → StateHolds b zs s → Leaves s st → StateHolds b zs st.then
left b zs s st h l = record { held_is = l.1 ∙ h.held_is; few = h.few; row_holds = rw l.0 h.row_holds }

ask_leaves : (s : State) (t : Trial Closed) → Leaves s (ask_closed s t)
ask_leaves s (done v) = (refl, refl)
ask_leaves s (stopped o) = (refl, refl)

judged_leaves : (s : State) (t : Trial Verdict) → Leaves s (mark_judged s t)
judged_leaves s (done v) = (refl, refl)
judged_leaves s (stopped o) = (refl, refl)

closed_leaves : (b : Making) (s : State) (q T : ℤ) (t : Trial Closed) → Leaves s (mark_closed b s q T t)
closed_leaves b s q T (done v) = judged_leaves s (verdict b.meaning v q T)
closed_leaves b s q T (stopped o) = (refl, refl)

test_leaves : (t : Bool) (s : State) (x : Step) (r : ℕ) (d : List ℕ) → Leaves s x → Leaves s (cond t x (refuse s r d))
test_leaves t s x r d h = by_test t x (refuse s r d) (Leaves s) (λ _. h) (refl, refl)

order_leaves : (b : Making) (s : State) (k : ℕ) (x : Step) → Leaves s x → Leaves s (order_checked b s k x)
order_leaves b s k x h = test_leaves (leb k b.K) s _ 6 [] (test_leaves (leb k s.held) s x 7 [] h)

mark_leaves : (b : Making) (s : State) (name k : ℕ) (q T : Admission) → Leaves s (mark_admitted b s name k q T)
mark_leaves b s name k (number q) (number T) = test_leaves (eqb name b.bench_number && ltb 0 s.out) s _ 10 [] (order_leaves b s k _ (test_leaves (le_z (pos 0) T) s _ 11 [] (closed_leaves b s q T _)))
mark_leaves b s name k (number q) (not_admitted c) = (refl, refl)
mark_leaves b s name k (not_admitted c) T = (refl, refl)

-- ---- adding
added_holds : (b : Making) → Rules b.meaning → (zs : List ℤ) (s : State) (x : ℤ) → Number b.meaning x → StateHolds b zs s → s.held < 64 → (w : Update) →
    row_after b.meaning x s.row (min (suc s.held) b.K) ≡ w → StateHolds b (cond (accepted (add_updated s w).answer) (zs ++ x ∷ []) zs) (add_updated s w).then
added_holds b R zs s x n h few (written row) e = record {
  held_is = omega (arith, h.held_is, length-append zs (x ∷ []));
  few = omega (arith, h.held_is, length-append zs (x ∷ []));
  row_holds = add_holds b.meaning R b.K zs s.row row x n (omega (arith, h.held_is)) h.row_holds (rw h.held_is at e);
}
added_holds b R zs s x n h few (refused_at j o) e = h

add_step : (b : Making) → Rules b.meaning → (zs : List ℤ) (s : State) (a : Admission) → ((x : ℤ) → a ≡ number x → Number b.meaning x) → StateHolds b zs s →
    StateHolds b (cond (accepted (add_admitted b s a).answer) (zs ++ admitted a) zs) (add_admitted b s a).then
add_step b R zs s (not_admitted c) n h = h
add_step b R zs s (number x) n h =
    by_test (eqb s.out 0) _ _ P (λ t₁. by_test (ltb s.held 64) _ _ P (λ t₂. by_test (in_limits b.meaning x) _ _ P (λ t₃.
    added_holds b R zs s x (n x refl) h (ltb→lt s.held 64 t₂) _ refl) h) h) h
  where
    P : Step → Type 0
    P st = StateHolds b (cond (accepted st.answer) (zs ++ x ∷ []) zs) st.then

pub step_holds : (b : Making) → Rules b.meaning → (zs : List ℤ) (s : State) (c : Call) → StateHolds b zs s → StateHolds b (held_after b.meaning zs c (step b s c).answer) (step b s c).then
unfolding step
step_holds b R zs s (add bytes) h = add_step b R zs s (b.meaning.admit bytes) (λ x e. R.admitted_is_number bytes x e) h
step_holds b R zs s clear h = by_test (eqb s.out 0) _ _ (λ st. StateHolds b (cond (accepted st.answer) [] zs) st.then) (λ t. record { held_is = refl; few = omega arith; row_holds = new_holds b.meaning R b.K }) h
step_holds b R zs s (ask k) h = left b zs s (step b s (ask k)) h (order_leaves b s k _ (ask_leaves s _))
step_holds b R zs s (issue k) h = left b zs s (step b s (issue k)) h (order_leaves b s k _ (test_leaves (ltb s.out 32) s _ 9 [] (refl, refl)))
step_holds b R zs s (mark name k q t) h = left b zs s (step b s (mark name k q t)) h (mark_leaves b s name k (b.meaning.admit q) (b.meaning.admit t))
step_holds b R zs s (withdraw name k) h = left b zs s (step b s (withdraw name k)) h (test_leaves (eqb name b.bench_number && ltb 0 s.out) s _ 10 [] (refl, refl))
