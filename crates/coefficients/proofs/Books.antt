-- The law over books. A place in a kept book is reached in a state that holds the zeros told by the entries before it; the
-- answer there is the one defined, so it was closed or judged from that state. Then (a) is the enclosure of a closed cell, (b)
-- the meaning of a verdict, and (c) two enclosures of one exact number. The law at one call is the law at the last place of a
-- book that ends with it.
use Rattle.std.proofs.Common.{◌≡◌, ℕ, zero, suc, ◌*◌, ◌^◌, ◌<◌, ◌≤◌, Bool, true, false, cond, ◌&&◌, T, eqb, ltb, leb, List, [], ◌∷◌, ◌++◌, ℤ, pos, negsuc, ◌-ℤ◌, ◌*ℤ◌, nat_abs, ◌≤ℤ◌, ◌<ℤ◌, sym, refl, ap, ◌∙◌, subst, arith, leb→le}
use native.Mathlib.Nat.{pow-zero}
use lib.Signed.{le_z}
use Rattle.std.proofs.lemmas.Int.{ints}
use Rattle.arithmetic.specs.Meaning.{Meaning, Number}
use Rattle.arithmetic.specs.Rules.{Rules}
use Rattle.arithmetic.proofs.Accepted.{zero_is_number}
use Rattle.coefficients.specs.Row.{Cell, cell, Trial, done, stopped}
use Rattle.coefficients.specs.Closing.{Closed, close, Verdict, verdict}
use Rattle.coefficients.specs.Exact.{signed, symmetric}
use Rattle.coefficients.specs.Calls.{Making, State, Call, Answer, Step, step, refuse, new_bench, ask, mark, asked, marked, ask_closed, mark_judged, mark_closed, mark_numbers}
use Rattle.coefficients.specs.Book.{Entry, KeptFrom, held_from, zeros_held, state_after, Stands, Place}
use Rattle.coefficients.specs.Law.{CallLaw, ValuesEnclosed, VerdictHolds, VerdictsHold, ValuesAgree, BookLaw}
use Rattle.coefficients.proofs.Rows.{new_holds}
use Rattle.coefficients.proofs.Closing.{Enclosed, enclosed_cell}
use Rattle.coefficients.proofs.Judging.{Judged, verdict_says}
use Rattle.coefficients.proofs.Symmetric.{sym_zero, sym_times, sym_equally}
use Rattle.integers.proofs.Naturals.{some_power}
use Rattle.coefficients.proofs.States.{StateHolds, step_holds}
use Rattle.coefficients.proofs.Agreement.{agree_by, signed_times}

-- ---- a place in a book
record Reached (b : Making) (zs : List ℤ) (c : Call) (a : Answer) : Type 0 where
  state : State
  state_holds : StateHolds b zs state
  answer_is : a ≡ (step b state c).answer

reached_from : (b : Making) → Rules b.meaning → (before : List Entry) (c : Call) (a : Answer) (rest : List Entry) (zs : List ℤ) (s : State) → StateHolds b zs s →
    KeptFrom b s (before ++ (record { call = c; answer = a } ∷ rest)) → Reached b (held_from b.meaning zs before) c a
reached_from b R [] c a rest zs s h k = record { state = s; state_holds = h; answer_is = k.0 }
reached_from b R (e ∷ before) c a rest zs s h k = reached_from b R before c a rest _ _ (rw k.0 (step_holds b R zs s e.call h)) k.1

reached : (b : Making) → Rules b.meaning → (before : List Entry) (c : Call) (a : Answer) → Place b before c a → Reached b (zeros_held b.meaning before) c a
reached b R before c a p = reached_from b R before c a p.rest [] (new_bench b) (record { held_is = refl; few = omega arith; row_holds = new_holds b.meaning R b.K }) p.kept

-- ---- what is answered
ask_from : (t₁ t₂ : Bool) (s : State) (tr : Trial Closed) (v e : ℤ) → asked v e ≡ (cond t₁ (cond t₂ (ask_closed s tr) (refuse s 7 [])) (refuse s 6 [])).answer → T t₁ × T t₂ × (tr ≡ done (record { value = v; bound = e }))
ask_from true true s (done c) v e h = (tt, tt, rw (e₁, e₂))
  where
    e₁ : v ≡ c.value
    e₁ = cc

    e₂ : e ≡ c.bound
    e₂ = cc
ask_from true true s (stopped o) v e h = let z : ◌≡◌ {A = ℕ} 0 1 = cc in absurd (omega arith)
ask_from true false s tr v e h = let z : ◌≡◌ {A = ℕ} 0 1 = cc in absurd (omega arith)
ask_from false t₂ s tr v e h = let z : ◌≡◌ {A = ℕ} 0 1 = cc in absurd (omega arith)

record Marked (b : Making) (s : State) (k : ℕ) (q t : ℤ) (v : Verdict) : Type 0 where
  in_row : k ≤ b.K
  in_held : k ≤ s.held
  not_below : T (le_z (pos 0) t)
  closed : Closed
  closed_is : close b.meaning (cell s.row k) s.held k ≡ done closed
  verdict_is : verdict b.meaning closed q t ≡ done v

judged_from : (s : State) (tr : Trial Verdict) (v : Verdict) → marked v ≡ (mark_judged s tr).answer → tr ≡ done v
judged_from s (done w) v h = cc
judged_from s (stopped o) v h = let z : ◌≡◌ {A = ℕ} 0 1 = cc in absurd (omega arith)

closed_from : (b : Making) (s : State) (q t : ℤ) (tr : Trial Closed) (v : Verdict) → marked v ≡ (mark_closed b s q t tr).answer → (c : Closed) × (tr ≡ done c) × (verdict b.meaning c q t ≡ done v)
closed_from b s q t (done c) v h = (c, refl, judged_from s (verdict b.meaning c q t) v h)
closed_from b s q t (stopped o) v h = let z : ◌≡◌ {A = ℕ} 0 1 = cc in absurd (omega arith)

test_from : (t : Bool) (s : State) (x : Step) (r : ℕ) (d : List ℕ) (v : Verdict) → marked v ≡ (cond t x (refuse s r d)).answer → T t × (marked v ≡ x.answer)
test_from true s x r d v h = (tt, h)
test_from false s x r d v h = let z : ◌≡◌ {A = ℕ} 0 1 = cc in absurd (omega arith)

mark_from : (b : Making) (s : State) (name k : ℕ) (q t : ℤ) (v : Verdict) → marked v ≡ (mark_numbers b s name k q t).answer → Marked b s k q t v
mark_from b s name k q t v h =
    let h₁ = test_from (eqb name b.bench_number && ltb 0 s.out) s _ 10 [] v h in
    let h₂ = test_from (leb k b.K) s _ 6 [] v h₁.1 in
    let h₃ = test_from (leb k s.held) s _ 7 [] v h₂.1 in
    let h₄ = test_from (le_z (pos 0) t) s _ 11 [] v h₃.1 in
    let c = closed_from b s q t (close b.meaning (cell s.row k) s.held k) v h₄.1 in
    record { in_row = leb→le k b.K h₂.0; in_held = leb→le k s.held h₃.0; not_below = h₄.0; closed = c.0; closed_is = c.1; verdict_is = c.2 }

enclosed_zero : (m : Meaning) → Rules m → (zs : List ℤ) (c : Cell) (n : ℕ) (v : Closed) → close m c n 0 ≡ done v → Enclosed m 0 (symmetric 0 zs) (m.Q ^ 0) v
enclosed_zero m R zs c n v e = subst (Enclosed m 0 (symmetric 0 zs) (m.Q ^ 0)) end (record {
  value_number = R.one_is_number;
  bound_number = zero_is_number m R;
  bound_natural = refl;
  encloses = rw (sym_zero zs, pow-zero m.Q) (none m.Q);
})
  where
    end : record { value = pos m.Q; bound = pos 0 } ≡ v
    end = cc

    none : (q : ℕ) → nat_abs (pos q *ℤ pos 1 -ℤ pos 1 *ℤ pos q) ≤ 0 * 1
    none q = omega (arith, ints)

enclosed : (b : Making) → Rules b.meaning → (zs : List ℤ) (s : State) (k : ℕ) (v : Closed) → StateHolds b zs s → k ≤ b.K → k ≤ s.held →
    close b.meaning (cell s.row k) s.held k ≡ done v → Enclosed b.meaning k (symmetric k zs) (b.meaning.Q ^ k) v
enclosed b R zs s zero v h l₁ l₂ e = enclosed_zero b.meaning R zs (cell s.row 0) s.held v e
enclosed b R zs s (suc k) v h l₁ l₂ e = enclosed_cell b.meaning R s.held k (symmetric (suc k) zs) (b.meaning.Q ^ suc k) (cell s.row (suc k)) v (omega arith) (omega (arith, h.held_is, h.few))
    (rw h.held_is (h.row_holds.holds (suc k) l₁)) e

-- ---- (a)
answered : (b : Making) → Rules b.meaning → (before : List Entry) (k : ℕ) (v e : ℤ) → Place b before (ask k) (asked v e) →
    Enclosed b.meaning k (symmetric k (zeros_held b.meaning before)) (b.meaning.Q ^ k) (record { value = v; bound = e })
unfolding step
answered b R before k v e p = enclosed b R _ r.state k _ r.state_holds (leb→le k b.K f.0) (leb→le k r.state.held f.1) f.2
  where
    r : Reached b (zeros_held b.meaning before) (ask k) (asked v e)
    r = reached b R before (ask k) (asked v e) p

    f : T (leb k b.K) × T (leb k r.state.held) × (close b.meaning (cell r.state.row k) r.state.held k ≡ done (record { value = v; bound = e }))
    f = ask_from (leb k b.K) (leb k r.state.held) r.state _ v e r.answer_is

at_most_scaled : (n : ℕ) (e : ℤ) (q : ℕ) → e ≡ pos (nat_abs e) → n ≤ nat_abs e * q → pos n ≤ℤ (e *ℤ pos q)
at_most_scaled n e q h l = rw h (le (nat_abs e * q) l)
  where
    le : (x : ℕ) → n ≤ x → pos n ≤ℤ pos x
    le x l = omega (arith, ints)

pub values_enclosed : ValuesEnclosed
values_enclosed b R before k v e p = at_most_scaled _ e (b.meaning.Q ^ k) a.bound_natural a.encloses
  where
    a : Enclosed b.meaning k (symmetric k (zeros_held b.meaning before)) (b.meaning.Q ^ k) (record { value = v; bound = e })
    a = answered b R before k v e p

-- ---- (b)
below_pos : (a b : ℕ) → a ≤ b → pos a ≤ℤ pos b
below_pos a b l = omega (arith, ints)

under_pos : (a b : ℕ) → a < b → pos a <ℤ pos b
under_pos a b l = omega (arith, ints)

marked_holds : (b : Making) → Rules b.meaning → (zs : List ℤ) (s : State) (k : ℕ) (q t : ℤ) (v : Verdict) → StateHolds b zs s → Number b.meaning q → Number b.meaning t → Marked b s k q t v →
    VerdictHolds b.meaning k zs q t v
marked_holds b R zs s k q (negsuc t) v h q_n t_n f = absurd f.not_below
marked_holds b R zs s k q (pos t) v h q_n t_n f = record { if_right = λ e. below_pos _ _ (j.if_right e); if_wrong = λ e. under_pos _ _ (j.if_wrong e) }
  where
    j : Judged b.meaning k (symmetric k zs) (b.meaning.Q ^ k) q t v
    j = verdict_says b.meaning R k (symmetric k zs) (b.meaning.Q ^ k) (some_power b.meaning.Q k R.some_scale) f.closed (enclosed b R zs s k f.closed h f.in_row f.in_held f.closed_is) q t q_n t_n v f.verdict_is

pub verdicts_hold : VerdictsHold
unfolding step
verdicts_hold b R before n k claim tolerance v p q t q_is t_is =
    marked_holds b R _ r.state k q t v r.state_holds (R.admitted_is_number claim q q_is) (R.admitted_is_number tolerance t t_is) (mark_from b r.state n k q t v (rw (q_is, t_is) at r.answer_is))
  where
    r : Reached b (zeros_held b.meaning before) (mark n k claim tolerance) (marked v)
    r = reached b R before (mark n k claim tolerance) (marked v) p

-- ---- (c)
pub values_agree : ValuesAgree
values_agree b b' R R' before before' k v e v' e' p p' same = rw (a.bound_natural, a'.bound_natural) (below_pos _ _
    (agree_by P Q (P ^ k) (Q ^ k) v v' (signed k S) (signed k S') (nat_abs e) (nat_abs e') (some_power P k R.some_scale) (some_power Q k R'.some_scale) exact a.encloses a'.encloses))
  where
    P : ℕ
    P = b.meaning.Q

    Q : ℕ
    Q = b'.meaning.Q

    zs : List ℤ
    zs = zeros_held b.meaning before

    zs' : List ℤ
    zs' = zeros_held b'.meaning before'

    S : ℤ
    S = symmetric k zs

    S' : ℤ
    S' = symmetric k zs'

    a : Enclosed b.meaning k (symmetric k (zeros_held b.meaning before)) (b.meaning.Q ^ k) (record { value = v; bound = e })
    a = answered b R before k v e p

    a' : Enclosed b'.meaning k (symmetric k (zeros_held b'.meaning before')) (b'.meaning.Q ^ k) (record { value = v'; bound = e' })
    a' = answered b' R' before' k v' e' p'

    exact : signed k S *ℤ pos (Q ^ k) ≡ signed k S' *ℤ pos (P ^ k)
    exact = signed_times k S (Q ^ k) ∙ ap (signed k) (sym (sym_times k Q zs) ∙ sym_equally _ _ same k ∙ sym_times k P zs') ∙ sym (signed_times k S' (P ^ k))

pub book_law : BookLaw
book_law = record { enclosed = values_enclosed; judged = verdicts_hold; agree = values_agree }

-- ---- one call of a bench that stands at the end of a book
kept_more : (b : Making) (book : List Entry) (s : State) (e : Entry) → KeptFrom b s book → e.answer ≡ (step b (state_after b s book) e.call).answer → KeptFrom b s (book ++ (e ∷ []))
kept_more b [] s e k h = (h, tt)
kept_more b (e' ∷ book) s e k h = (k.0, kept_more b book (step b s e'.call).then e k.1 h)

after_more : (b : Making) (book : List Entry) (s : State) (e : Entry) → state_after b s (book ++ (e ∷ [])) ≡ (step b (state_after b s book) e.call).then
after_more b [] s e = refl
after_more b (e' ∷ book) s e = after_more b book (step b s e'.call).then e

stands_more : (b : Making) (book : List Entry) (s : State) (c : Call) (a : Answer) → a ≡ (step b s c).answer → Stands b book s → Stands b (book ++ (record { call = c; answer = a } ∷ [])) (step b s c).then
stands_more b book s c a h st = record {
  kept = kept_more b book (new_bench b) (record { call = c; answer = a }) st.kept (rw st.state_is h);
  state_is = after_more b book (new_bench b) (record { call = c; answer = a }) ∙ ap (λ t. (step b t c).then) st.state_is;
}

place_here : (b : Making) (book : List Entry) (s : State) (c c' : Call) (a a' : Answer) → a ≡ (step b s c).answer → Stands b book s → c ≡ c' → a ≡ a' → Place b book c' a'
place_here b book s c c' a a' h st c_is a_is = record { rest = []; kept = rw (← c_is, ← a_is) (stands_more b book s c a h st).kept }

pub call_law : (b : Making) → Rules b.meaning → (s : State) (c : Call) (a : Answer) → a ≡ (step b s c).answer → CallLaw b s c a
call_law b R s c a h = record {
  goes_on = λ book st. stands_more b book s c a h st;
  encloses = λ book k v e st c_is a_is. values_enclosed b R book k v e (place_here b book s c _ a _ h st c_is a_is);
  judges = λ book n k claim tolerance v q t st c_is a_is q_is t_is. verdicts_hold b R book n k claim tolerance v (place_here b book s c _ a _ h st c_is a_is) q t q_is t_is;
  agrees = λ book k v e st c_is a_is b' R' before' v' e' p' same. values_agree b b' R R' book before' k v e v' e' (place_here b book s c _ a _ h st c_is a_is) p' same;
}
