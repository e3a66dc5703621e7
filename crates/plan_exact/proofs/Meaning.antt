-- The listing in the words of the paper: its rows are exactly the active sessions of the variants, each once, under the
-- lowest variant that has it, and before all that follow it. The row that BEST answers is the first shortest of them,
-- and BEST's last number says how many are shortest.
use Prim.Native.Nat.{ℕ, suc, ◌≤◌, ◌<◌}
use native.Mathlib.Decide.{ℕ_discrete, dec_lt}
use native.Mathlib.Omega.{arith}
use mathlib.Core.Bool.{Bool, true, false, not}
use mathlib.Core.HLevel.{¬_prop}
use mathlib.Core.List.Memᴰ
use mathlib.Core.List.{List, ◌∷◌, ◌++◌, map, Mem, Memᴰ, List-discrete}
use mathlib.Core.List.Pairwise
use mathlib.Core.Logic.{◌↔◌, ◌≢◌, by_cases, inl, inr}
use mathlib.Core.Path.{◌≡◌, refl, sym, ap, ap₂, subst, ◌∙◌}
use lib.Dec.{leb}
use lib.ListN.{length, drop}
use borrow.Author.Tests.{ltb-true, eq-eqb, eqb-true}
use Rattle.plan.specs.Outcome.{Outcome}
use Rattle.plan.specs.Plan.{Plan}
use Rattle.plan.specs.declared.Refusal.{Refusal}
use Rattle.term.specs.Term.{Term}
use Rattle.term.specs.Variants.{variant_count, activities, member}
use Rattle.term.proofs.Twice.{member_found}
use Rattle.timetable.specs.Mark.{mark}
use Rattle.base.specs.Lists.{is_one_of, least_of, cells_of}
use Rattle.base.specs.Order.{is_before, Before}
use Rattle.base.proofs.Below.{every_at, every_of}
use Rattle.base.proofs.Bools.{by_bool, true_not_false}
use Rattle.base.proofs.Lists.{keep_is, keep_mem, keep_pairwise, one_of_is, one_of, mem_found, cells_length, least_below}
use Rattle.base.proofs.Order.{same_first, other_first, not_self, differ_before, Smaller, before_smaller}
use Rattle.schedule.specs.Project.{Project}
use Rattle.schedule.specs.Schedule.{Starts}
use Rattle.schedule.specs.Sessions.{starts_of}
use Rattle.schedule.proofs.Bounds.{starts_below_horizon}
use Rattle.schedule.proofs.Box as box
use Rattle.variant.specs.Project.{variant_at, project_of}
use Rattle.term.specs.Valid.{HasVariant, Valid}
use Rattle.variant.proofs.Instance.{sound}
use Rattle.variant.specs.Pairs.{sessions_of, is_new, pairs, pair_count}
use Rattle.variant.specs.Words.{Present, Makespan, IsActive, ActiveSession, Sooner}
use Rattle.variant.proofs.Words.{absent, variant_inside, variant_some, has, makespan_means, active_words, words_active}
use Rattle.judge.specs.Judge.{Verdict, judge, accepts, refuses}
use Rattle.judge.proofs.Accepts.{accepted_valid}
use Rattle.answers.specs.Listed.{cells_needed, list_within, list_by, list_of}
use Rattle.answers.specs.Shortest.{makespan_in, row_starts, row_span, shortest_pairs, shortest_count, first_shortest}
use Rattle.answers.specs.Words.{ActiveForSome, IsRow, StandsBefore, Listing, ListingOf, SpanOf, NoLonger}
use Rattle.answers.specs.Words.{FirstShortest, ShortestRows}
use Rattle.std.specs.Prelude.{Result, Ok, Err}
use Rattle.plan_exact.proofs.Variant.{chosen, box_unmarked}
use Rattle.plan_exact.proofs.Union.{session_marks, Lowest, lowest}
use Rattle.plan_exact.proofs.Pairs.{Pair, row_pair, pair_mem}
use Rattle.plan_exact.proofs.Rows.{pairs_ordered}
use Rattle.plan_exact.proofs.Shortest.{First, first_shortest_lem, first_span, spans, is_shortest}

-- One variant: what its list of sessions holds.
module _ (p : Plan) (t : Term) (v : ℕ) (c : HasVariant p t v) (row : List ℕ) where
  abbrev w : Term
  w = variant_at t v

  abbrev P : Project
  P = project_of p w

  inside : (i : ℕ) → Present w i → i < length p.activities
  inside = variant_inside p t v c

  session_words : Memᴰ row (sessions_of p t v) → ActiveSession p w row
  session_words m =
      let s = box.session_is P mark row m in
      record {
        long = unfold project_of in s.long;
        marks = session_marks p t v c row m;
        active = active_words p w inside (starts_of row) s.is_active;
      }

  session_listed : ActiveSession p w row → Memᴰ row (sessions_of p t v)
  unfolding project_of
  session_listed a =
      box.session_mem P mark row (sound p c.valid.ranges w)
      (record {
        long = a.long;
        marked = λ i l z. (a.marks i l).1 ((absent w i).0 z);
        is_active = words_active p w inside (starts_of row) a.active;
      })

-- The makespan in words.
pub makespan_words : (p : Plan) (t : Term) (v : ℕ) → HasVariant p t v → (S : Starts) (n : ℕ)
    → (n ≡ makespan_in p t v S) ↔ Makespan p (variant_at t v) S n
makespan_words p t v c S n =
    let (i, there) = variant_some p t v c in
    makespan_means p (variant_at t v) (variant_inside p t v c) S i there n

-- No start of an active schedule is as late as the mark.
pub active_unmarked : (p : Plan) (t : Term) (v : ℕ) → HasVariant p t v → (S : Starts) → IsActive p (variant_at t v) S
    → (i : ℕ) → Present (variant_at t v) i → S i < mark
active_unmarked p t v c S a i there =
    let w : Term = variant_at t v in
    let inside = variant_inside p t v c in
    omega (
      arith,
      starts_below_horizon (project_of p w) S (sound p c.valid.ranges w) (words_active p w inside S a) i
          (has p w inside i there),
      box_unmarked p w c.valid.ranges,
    )

-- Where two sessions of a variant first differ, the activity is present: an absent one has the mark in both.
sooner : {p : Plan} (w : Term) (a b : List ℕ) → ActiveSession p w a → ActiveSession p w b → Before a b → Sooner w a b
sooner w a b r s h =
    let d : Smaller a b = before_smaller a b (r.long ∙ sym s.long) h in
    record {
      activity = d.place;
      present =
          by_bool
          (member d.place (activities w))
          (member_found d.place (activities w))
          (λ z. absurd (omega (
            arith,
            d.smaller,
            (r.marks d.place (omega (arith, d.inside, r.long))).1 ((absent w d.place).0 z),
            (s.marks d.place (omega (arith, d.inside, r.long))).1 ((absent w d.place).0 z),
          )));
      sooner = d.smaller;
      same = λ i _ l. d.same i l;
    }

-- The pairs of a plan.
module _ (p : Plan) (t : Term) (valid : Valid p t) where
  at : (v : ℕ) → v < variant_count t → HasVariant p t v
  at v l = chosen p t v valid l

  -- No lower variant has a new session.
  none_lower : (v : ℕ) (ss : List ℕ) → is_new p t v ss ≡ true → (u : ℕ) → u < v → Memᴰ ss (sessions_of p t u) → ⊥
  unfolding is_new
  none_lower v ss new u l m =
      true_not_false (every_at v (λ k. not (is_one_of ss (sessions_of p t k))) new u l)
      (ap not (one_of ss (sessions_of p t u) m))

  new_of : (v : ℕ) (ss : List ℕ) → ((u : ℕ) → u < v → Memᴰ ss (sessions_of p t u) → ⊥) → is_new p t v ss ≡ true
  unfolding is_new
  new_of v ss none =
      every_of v (λ u. not (is_one_of ss (sessions_of p t u)))
      (λ u l.
      by_bool
      (is_one_of ss (sessions_of p t u))
      (λ y. absurd (none u l (one_of_is ss (sessions_of p t u) y)))
      (λ z. ap not z))

  is_row : (row : List ℕ) → Memᴰ row (pairs p t) → IsRow p t row
  is_row row m =
      let (v, ss, e, pair) = row_pair p t row m in
      record {
        variant = v;
        starts = ss;
        whole = sym e;
        below = pair.below;
        session = session_words p t v (at v pair.below) ss pair.session;
        lowest =
            λ u l s.
            none_lower v ss pair.new u l (session_listed p t u (at u (omega (arith, pair.below))) ss s);
      }

  row_is : (row : List ℕ) → IsRow p t row → Memᴰ row (pairs p t)
  row_is row r =
      let v : ℕ = r.variant in
      let ss : List ℕ = r.starts in
      Memᴰ.cast r.whole
      (pair_mem p t v ss
      (record {
        below = r.below;
        session = session_listed p t v (at v r.below) ss r.session;
        new =
            new_of v ss
            (λ u l m. r.lowest u l (session_words p t u (at u (omega (arith, r.below))) ss m));
      }))

  -- The union over the variants.
  some_active : (ss : List ℕ) → Memᴰ ss (map row_starts (pairs p t)) → ActiveForSome p t ss
  some_active ss m =
      let (row, n, e) = Memᴰ.of_map row_starts (pairs p t) m in
      let (v, own, whole, pair) = row_pair p t row n in
      let same : own ≡ ss = ap row_starts whole ∙ e in
      record {
        variant = v;
        below = pair.below;
        session =
            subst (ActiveSession p (variant_at t v)) same
            (session_words p t v (at v pair.below) own pair.session);
      }

  active_listed : (ss : List ℕ) → ActiveForSome p t ss → Memᴰ ss (map row_starts (pairs p t))
  active_listed ss a =
      let low : Lowest p t valid a.variant ss =
      lowest p t valid a.variant ss (session_listed p t a.variant (at a.variant a.below) ss a.session) in
      let pair : Pair p t low.variant ss =
      record { below = omega (arith, low.low, a.below); session = low.session; new = low.new } in
      Memᴰ.map row_starts (pair_mem p t low.variant ss pair)

  -- Two rows with one session: the one with the lower variant has it already.
  starts_differ : (a b : List ℕ) → Memᴰ a (pairs p t) → Memᴰ b (pairs p t) → Before a b
      → row_starts a ≢ row_starts b
  starts_differ a b m n h e =
      let (v, r, ea, pair) = row_pair p t a m in
      let (u, s, eb, other) = row_pair p t b n in
      let same : r ≡ s = ap row_starts ea ∙ e ∙ sym (ap row_starts eb) in
      by_cases
      (ℕ_discrete v u)
      (λ q.
      true_not_false (ap₂ is_before ea eb ∙ h)
      (ap₂ (λ (k : ℕ) (l : List ℕ). is_before (v ∷ r) (k ∷ l)) (sym q) (sym same) ∙ not_self (v ∷ r)))
      (λ ne.
      by_cases
      (dec_lt v u)
      (λ l. none_lower u s other.new v l (Memᴰ.cast (sym same) pair.session))
      (λ g. none_lower v r pair.new u (omega arith) (Memᴰ.cast same other.session)))

  -- Before by all cells is before by the variant and its own activities: the others have the mark in both.
  before_words : (a b : List ℕ) → IsRow p t a → IsRow p t b → Before a b → StandsBefore t a b
  before_words a b r s h =
      let v : ℕ = r.variant in
      let u : ℕ = s.variant in
      let ranked : Before (v ∷ r.starts) (u ∷ s.starts) = ap₂ is_before (sym r.whole) (sym s.whole) ∙ h in
      subst (λ (x : List ℕ). StandsBefore t x b) (sym r.whole)
      (subst (StandsBefore t (v ∷ r.starts)) (sym s.whole)
      (by_cases
      (ℕ_discrete v u)
      (λ e.
      let rest : Before r.starts s.starts = sym (same_first v u r.starts s.starts e) ∙ ranked in
      let same : ActiveSession p (variant_at t v) s.starts =
      subst (λ (x : ℕ). ActiveSession p (variant_at t x) s.starts) (sym e) s.session in
      inr (e, sooner (variant_at t v) r.starts s.starts r.session same rest))
      (λ ne. inl (ltb-true v u (sym (other_first v u r.starts s.starts ne) ∙ ranked)))))

  pub pairs_listing : Listing p t (pairs p t)
  pairs_listing =
      record {
        exactly = λ row. (is_row row, row_is row);
        ordered =
            Pairwise.imp_of_mem
            (λ a b m n h. before_words a b (is_row a (known a m)) (is_row b (known b n)) h)
            (pairs_ordered p t);
        union = λ ss. (some_active ss, active_listed ss);
        once =
            Pairwise.map' {S = ◌≢◌} row_starts (λ a b. ¬_prop)
            (Pairwise.imp_of_mem (λ a b m n h. starts_differ a b (known a m) (known b n) h) (pairs_ordered p t));
      }
    where
      known : (row : List ℕ) → Mem row (pairs p t) → Memᴰ row (pairs p t)
      known row = mem_found (List-discrete ℕ_discrete) row (pairs p t)

  -- A row's makespan in words, and rows compared by it.
  span_row : (row : List ℕ) → IsRow p t row → (n : ℕ) → (n ≡ row_span p t row) ↔ SpanOf p t row n
  span_row row r n =
      subst (λ (x : List ℕ). (n ≡ row_span p t x) ↔ SpanOf p t x n) (sym r.whole)
      (makespan_words p t r.variant (at r.variant r.below) (starts_of r.starts) n)

  no_longer : (a b : List ℕ) → IsRow p t a → IsRow p t b → row_span p t a ≤ row_span p t b → NoLonger p t a b
  no_longer a b r s l m n x y = omega (arith, (span_row a r m).1 x, (span_row b s n).1 y)

  no_longer_span : (a b : List ℕ) → IsRow p t a → IsRow p t b → NoLonger p t a b → row_span p t a ≤ row_span p t b
  no_longer_span a b r s f =
      f (row_span p t a) (row_span p t b) ((span_row a r (row_span p t a)).0 refl) ((span_row b s (row_span p t b)).0 refl)

  pub best_first : FirstShortest p t (first_shortest p t)
  best_first =
      let best : List ℕ = first_shortest p t in
      let f : First p t best = first_shortest_lem p t valid in
      let r : IsRow p t best = is_row best f.one_of in
      record {
        one_of = r;
        least = λ other s. no_longer best other r s (f.least other (row_is other s));
        first =
            λ other s short ne.
            let here = row_is other s in
            let same : row_span p t other ≡ row_span p t best =
            omega (arith, no_longer_span other best s r short, f.least other here) in
            before_words best other r s (differ_before best other (f.first other here same) (λ e. ne (sym e)));
      }

  pub best_shortest : ShortestRows p t (shortest_count p t)
  unfolding shortest_count shortest_pairs
  best_shortest =
      let below : (row : List ℕ) → IsRow p t row → least_of (spans p t) ≤ row_span p t row =
      λ row r. least_below (spans p t) (row_span p t row) (Memᴰ.map (row_span p t) (row_is row r)) in
      let span : row_span p t (first_shortest p t) ≡ least_of (spans p t) = first_span p t valid in
      record {
        rows = shortest_pairs p t;
        exactly = λ row. (
          λ m.
              let (here, y) = keep_is (is_shortest p t) (pairs p t) m in
              let own : row_span p t row ≡ least_of (spans p t) = eqb-true _ _ y in
              let r : IsRow p t row = is_row row here in
              (r, λ other s. no_longer row other r s (omega (arith, own, below other s))),
          λ h.
              let first : IsRow p t (first_shortest p t) = best_first.one_of in
              keep_mem (is_shortest p t) (pairs p t) (row_is row h.0)
              (eq-eqb (row_span p t row) (least_of (spans p t))
              (omega (
                arith,
                span,
                below row h.0,
                no_longer_span row (first_shortest p t) h.0 first (h.1 (first_shortest p t) first),
              ))),
        );
        once =
            keep_pairwise (is_shortest p t) (pairs p t)
            (Pairwise.imp (λ a b h e. true_not_false (ap (is_before a) e ∙ h) (not_self a)) (pairs_ordered p t));
        count = refl;
      }

never : {A : Type 0} {r : Refusal} {n : ℕ} → ◌≡◌ {A = Result ℕ Refusal} (Ok n) (Err r) → A
never e = absurd (let z : ◌≡◌ {A = ℕ} 0 1 = cc in omega arith)

-- What LIST leaves in the area when it answers n.
module _ (s : List ℕ) (n : ℕ) (before after : List ℕ) (p : Plan) (t : Term) (accepted : judge s ≡ accepts p t) where
  abbrev width : ℕ
  width = suc (length p.activities)

  row_long : (row : List ℕ) → IsRow p t row → length row ≡ width
  row_long row r = ap length r.whole ∙ ap suc r.session.long

  listed : ◌≡◌ {A = Result ℕ Refusal} (Ok (pair_count p t)) (Ok n) → cells_of (pairs p t) ++ drop (cells_needed p t) before ≡ after
      → ListingOf s n before after
  unfolding pair_count
  listed answer cells =
      let listing : Listing p t (pairs p t) = pairs_listing p t (accepted_valid s p t accepted).0 in
      let long : length (cells_of (pairs p t)) ≡ cells_needed p t =
      cells_length width (pairs p t) (λ row m. row_long row ((listing.exactly row).0 m)) in
      record {
        plan = p;
        term = t;
        accepted = accepted;
        rows = pairs p t;
        count = cc;
        cells = sym cells ∙ ap (λ (k : ℕ). cells_of (pairs p t) ++ drop k before) (sym long);
        listing = listing;
      }

  within : (a b : Bool) → list_within a b p t before ≡ record { answer = Ok n; area = after }
      → ListingOf s n before after
  within false b h = never (sym (ap (λ (o : Outcome (Result ℕ Refusal)). o.answer) h))
  within true false h = never (sym (ap (λ (o : Outcome (Result ℕ Refusal)). o.answer) h))
  within true true h =
      listed (ap (λ (o : Outcome (Result ℕ Refusal)). o.answer) h) (ap (λ (o : Outcome (Result ℕ Refusal)). o.area) h)

module _ (s : List ℕ) (cap n : ℕ) (before after : List ℕ) where
  by_verdict : (o : Verdict) → judge s ≡ o → list_by o cap before ≡ record { answer = Ok n; area = after }
      → ListingOf s n before after
  by_verdict (accepts p t) e h =
      within s n before after p t e (leb (pair_count p t) cap) (leb (cells_needed p t) (length before)) h
  by_verdict (refuses r) e h = never (sym (ap (λ (o : Outcome (Result ℕ Refusal)). o.answer) h))

  pub list_listing : list_of s cap before ≡ record { answer = Ok n; area = after } → ListingOf s n before after
  unfolding list_of
  list_listing h = by_verdict (judge s) refl h
