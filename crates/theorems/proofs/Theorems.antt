-- What is proved of the calls: one theorem for each demand, as the mission words it. Each speaks of the contracts of
-- the calls, which every function of the program is proved to meet.
use Prim.Native.Nat.{ℕ, ◌≤◌, ◌<◌}
use native.Mathlib.Decide.{dec_le}
use native.Mathlib.Omega.{arith}
use mathlib.Core.Bool.{true}
use mathlib.Core.List.{List, ◌∷◌, Memᴰ, Perm}
use mathlib.Core.Logic.{◌↔◌, by_cases}
use mathlib.Core.Path.{◌≡◌, refl, sym, ap, ◌∙◌, subst}
use mathlib.Core.Option.{some}
use lib.ListN.{length, take}
use Rattle.base.specs.Lists.{every}
use Rattle.plan.specs.Limits.{longest_of, longest, is_edition}
use Rattle.plan.specs.Plan.{Plan, is_node}
use Rattle.plan.specs.declared.Node.{Node}
use Rattle.plan.specs.declared.Refusal.{Refusal}
use Rattle.plan.specs.declared.Refusal.TheVariants.{NotOneTerm, Twice, TooManyVariants, OverCap}
use Rattle.format.specs.Text.{text}
use Rattle.format.proofs.Longest.{longest_plan}
use Rattle.timetable.specs.Mark.{mark}
use Rattle.schedule.specs.Bounds.{load_of}
use Rattle.schedule.specs.Schedule.{Starts}
use Rattle.schedule.specs.Sessions.{sessions}
use Rattle.term.specs.Term.{Term, full, term_of}
use Rattle.term.specs.Valid.{Valid, HasVariant}
use Rattle.term.specs.Variants.{variants, variant_count, activities, twice}
use Rattle.term.specs.Clash.{clash, Repeats}
use Rattle.term.specs.Reduced.{Reduced}
use Rattle.term.proofs.Reading.{full_term_of, plan_full}
use Rattle.term.proofs.Reduced.{variants_reduced}
use Rattle.term.proofs.Twice.{twice_clash, twice_means}
use Rattle.variant.specs.Pairs.{pairs, pair_count}
use Rattle.variant.specs.Project.{variant_at, project_of}
use Rattle.variant.specs.FirstEdition.{time_on, in_units}
use Rattle.variant.specs.Words.{Present, Keeps, resource_of, KeepsApart, Makespan, IsActive}
use Rattle.scan.specs.Components.{component_of}
use Rattle.scan.specs.Scan.{schedules}
use Rattle.variant.specs.Timetable.{is_session, timetable_of}
use Rattle.variant.specs.Written.{dissolved}
use Rattle.variant.proofs.Dissolve.{dissolved_full}
use Rattle.variant.proofs.FirstEdition.{load_time}
use Rattle.variant.proofs.RoundTrip.{variant_full}
use Rattle.variant.proofs.Words.{variant_inside, keeps_apart}
use Rattle.judge.specs.Judge.{Verdict, accepts, refuses, judge}
use Rattle.judge.proofs.Accepts.{accepted_valid, valid_accepted, accepted_short, longest_term, longest_accepted}
use Rattle.read.specs.Answer.{read_of}
use Rattle.write.specs.Answer.{write_of}
use Rattle.write.specs.RoundTrip.{RoundTrip}
use Rattle.write.proofs.RoundTrip.{round_trip}
use Rattle.inspect.specs.Answer.{check_of}
use Rattle.inspect.specs.Words.{SessionOf}
use Rattle.std.specs.Prelude.{Result, Ok, Err}
use Rattle.inspect.proofs.Meaning.{check_yes}
use Rattle.answers.specs.Listed.{list_of}
use Rattle.answers.specs.Shortest.{makespan_in, row_variant, row_span, first_shortest, best_row, best_by}
use Rattle.answers.specs.Shortest.{best_of}
use Rattle.answers.specs.Words.{Listing, ListingOf, FirstShortest, ShortestRows}
use Rattle.answers.specs.declared.Best.{Best}
use Rattle.plan.specs.declared.Refusal.{Refusal}
use Rattle.plan_exact.proofs.Found.{variant_scan}
use Rattle.plan_exact.proofs.Meaning.{makespan_words, active_unmarked, list_listing, pairs_listing, best_first}
use Rattle.plan_exact.proofs.Meaning.{best_shortest}
use Rattle.plan_exact.proofs.Pairs.{pair_checks}
use Rattle.theorems.specs.TurnedBack.{TurnedBack, Untouched}
use Rattle.theorems.specs.Unfit.{NotWhole, HasTwice, HasTooMany}
use Rattle.theorems.specs.Shortest.{ActiveSessions, ShortestSession, Between}
use Rattle.theorems.proofs.FirstEdition.{component_resource, units_accepted, units_read, units_check}
use Rattle.theorems.proofs.FirstEdition.{units_list, units_best}
use Rattle.theorems.proofs.Refused.{turned_back, unfit_turned_back, untouched}
use Rattle.theorems.proofs.Unfit.{not_whole, has_twice, has_too_many}
use Rattle.theorems.proofs.Shortest.{active_count, active_sessions, shortest_words, shortest_between, row_first}
use Rattle.theorems.proofs.Shortest.{over, within}

-- 1. "Memory lent to it, of any length and content, is read within its ends and written only where the call names it;
-- every call finishes; an unfit plan is refused by a fixed number; a refusal leaves the lent area as it stood."
--
-- That memory is read within its ends and that every call finishes is proved of each function by itself, and no call
-- asks anything of its caller; what is written is what the contracts name. A file that is the text of no valid plan
-- is turned back by every call with the same number and figure, and no refusal of any kind changes what was lent.
pub demand_1 : (s : List ℕ)
    → (((p : Plan) (t : Term) → Valid p t → s ≡ text p → ⊥) → (r : Refusal) × TurnedBack s r)
    × Untouched s
demand_1 s = (unfit_turned_back s, untouched s)

-- 2. "An accepted plan has the variants of document 000, and the listing holds exactly the active schedules of its
-- Definition 2, each once (since P3, over the whole plan). A variant written out reads back as that variant."
--
-- The variants are the reduced terms of document 000; what LIST leaves in the area when it answers n rows is that
-- listing, in which a session that several variants have is there once, under the lowest; and the bytes that WRITE
-- leaves are accepted as the variant.
pub demand_2 : (s : List ℕ) (p : Plan) (t : Term) → judge s ≡ accepts p t
    → ((w : Term) → Memᴰ w (variants t) ↔ Reduced t w)
    × ((cap n : ℕ) (before after : List ℕ) → list_of s cap before ≡ record { answer = Ok n; area = after }
    → ListingOf s n before after)
    × ((v n : ℕ) (area after : List ℕ) → write_of s v area ≡ record { answer = Ok n; area = after }
    → RoundTrip s v (take n after))
demand_2 s p t accepted = (
  variants_reduced t,
  λ cap n before after. list_listing s cap n before after,
  λ v n area after. round_trip s v area n after,
)

-- The listing that LIST writes is the list of pairs: every active session of every variant, under the lowest variant
-- for which it is active, increasing strictly by the variant and then by the starts of the present activities. Its
-- sessions are the plain union of document 000, and none of them is there twice over the whole plan.
pub listing_union : (p : Plan) (t : Term) → Valid p t → Listing p t (pairs p t)
listing_union = pairs_listing

-- 3. "For every accepted plan and every cap, the planner asked for a shortest session stops without one exactly if
-- the variants together have more active sessions than the cap. Otherwise the session handed back is feasible for the
-- variant named with it, the makespan and the count are its own makespan and the number of those active sessions; any
-- feasible session S of any variant, starts being any whole ticks from 0, has at least that makespan, and the two are
-- equal exactly when no feasible session of any variant is shorter than S."
--
-- BEST's last number is that of the rows of the listing that have the least makespan.
pub demand_3 : (s : List ℕ) (p : Plan) (t : Term) → judge s ≡ accepts p t
    → (n : ℕ) → ActiveSessions p t n
    → (cap : ℕ)
    → ((best_of s cap ≡ Err OverCap) ↔ (cap < n))
    × (n ≤ cap
    → (b : Best) × (best_of s cap ≡ Ok b) × (b.count ≡ n)
    × ShortestSession p t b.variant b.makespan b.timetable.starts
    × ShortestRows p t b.shortest)
unfolding best_of
demand_3 s p t accepted n active cap =
    let valid : Valid p t = (accepted_valid s p t accepted).0 in
    let count : n ≡ pair_count p t = active_count p t valid n active in
    let is = ap (λ (o : Verdict). best_by o cap) accepted in
    let (v, ss, row, first) = row_first p t valid in
    let found : n ≤ cap → best_by (judge s) cap ≡ Ok (best_row p t (v ∷ ss)) =
    λ l. is ∙ within p t valid cap (omega arith) ∙ ap (λ (r : List ℕ). Ok (best_row p t r)) row in (
      (
        λ refused. by_cases (dec_le n cap) (λ l. absurd (never (sym (found l) ∙ refused))) (λ g. omega arith),
        λ l. is ∙ over p t valid cap (omega arith),
      ),
      λ l. (
        best_row p t (v ∷ ss),
        found l,
        sym count,
        shortest_words p t valid v ss first,
        best_shortest p t valid,
      ),
    )
  where
    never : {b : Best} → ◌≡◌ {A = Result Best Refusal} (Ok b) (Err OverCap) → ⊥
    never e = let z : ◌≡◌ {A = ℕ} 0 1 = cc in omega arith

-- There is such a number n: that of the rows of the listing.
pub active_sessions_number : (p : Plan) (t : Term) → Valid p t → ActiveSessions p t (pair_count p t)
active_sessions_number = active_sessions

-- The makespan in plain words: latest end less earliest start.
pub makespan_in_words : (p : Plan) (t : Term) (v : ℕ) → HasVariant p t v → (S : Starts) (n : ℕ)
    → (n ≡ makespan_in p t v S) ↔ Makespan p (variant_at t v) S n
makespan_in_words = makespan_words

-- No active session is shut out by the mark: every start of one, starts being any whole ticks from 0, is smaller.
pub unmarked : (p : Plan) (t : Term) (v : ℕ) → HasVariant p t v
    → (S : Starts) → IsActive p (variant_at t v) S → (i : ℕ) → Present (variant_at t v) i → S i < mark
unmarked = active_unmarked

-- Which shortest: BEST answers a row of that listing that stands before every other of its makespan. The makespan is at
-- least the chains and loads of its variant, and at most the sum of its durations.
pub first_shortest_row : (s : List ℕ) (p : Plan) (t : Term) → judge s ≡ accepts p t
    → (cap : ℕ) → pair_count p t ≤ cap
    → (row : List ℕ) × (best_of s cap ≡ Ok (best_row p t row)) × FirstShortest p t row
    × Between p t (row_variant row) (row_span p t row)
unfolding best_of
first_shortest_row s p t accepted cap l =
    let valid : Valid p t = (accepted_valid s p t accepted).0 in
    let (v, ss, whole, first) = row_first p t valid in (
      first_shortest p t,
      ap (λ (o : Verdict). best_by o cap) accepted ∙ within p t valid cap l,
      best_first p t valid,
      subst (λ (row : List ℕ). Between p t (row_variant row) (row_span p t row)) (sym whole)
          (shortest_between p t valid v ss first),
    )

-- The scan of document 000, section 4.2, over units and by the components of the project, gives exactly the active
-- schedules of a variant, each once: its Theorem 2.
pub scan_theorem : (p : Plan) (t : Term) (v : ℕ) → HasVariant p t v
    → Perm (schedules (project_of p (variant_at t v)) (component_of (project_of p (variant_at t v))) mark)
    (sessions (project_of p (variant_at t v)) mark)
scan_theorem = variant_scan

-- A plan of the first edition says what document 01 says: each activity starts no earlier than the end of all that
-- precede it, and two on one resource do not overlap.
pub first_edition : (p : Plan) (t : Term) (v : ℕ) → HasVariant p t v → p.edition ≡ 1 → (S : Starts)
    → Keeps p (variant_at t v) S ↔ KeepsApart p (variant_at t v) S
first_edition p t v c first S = keeps_apart p (variant_at t v) (variant_inside p t v c) S c.valid.ranges first

-- In the first edition the load of a resource is the sum of the durations of the variant's activities on it.
pub first_edition_load : (p : Plan) (t : Term) (v : ℕ) → HasVariant p t v → p.edition ≡ 1
    → (r : ℕ) → r < length p.capacities
    → load_of (project_of p (variant_at t v)) r ≡ time_on p (variant_at t v) r
first_edition_load p t v c first = load_time p c.valid.ranges first (variant_at t v)

-- In the first edition a component is a resource: two activities of the plan are of one component exactly if they are
-- on one resource.
pub first_edition_component : (p : Plan) (t : Term) (v : ℕ) → HasVariant p t v → p.edition ≡ 1
    → (i j : ℕ) → i < length p.activities → j < length p.activities
    → (component_of (project_of p (variant_at t v)) i ≡ component_of (project_of p (variant_at t v)) j)
    ↔ (resource_of p i ≡ resource_of p j)
first_edition_component p t v c first = component_resource p c.valid.ranges first (variant_at t v)

-- A plan of the first edition spelt as `plan=2` is accepted with the same term, and has the same listing and the same
-- BEST, whatever the cap. READ and CHECK answer the same too.
pub first_edition_spelt : (s : List ℕ) (p : Plan) (t : Term) → judge s ≡ accepts p t → p.edition ≡ 1
    → (judge (text (in_units p)) ≡ accepts (in_units p) t)
    × ((cap : ℕ) (area : List ℕ) → list_of (text (in_units p)) cap area ≡ list_of s cap area)
    × ((cap : ℕ) → best_of (text (in_units p)) cap ≡ best_of s cap)
    × (read_of (text (in_units p)) ≡ read_of s)
    × ((v : ℕ) (timetable : List ℕ) → check_of (text (in_units p)) v timetable ≡ check_of s v timetable)
first_edition_spelt s p t accepted first = (
  units_accepted s p t accepted first,
  units_list s p t accepted first,
  units_best s p t accepted first,
  units_read s p t accepted first,
  units_check s p t accepted first,
)

-- Which files are accepted: exactly the texts of valid plans.
pub accepted_texts : (s : List ℕ) (p : Plan) (t : Term) → (judge s ≡ accepts p t) ↔ (Valid p t × (s ≡ text p))
accepted_texts s p t = (
  accepted_valid s p t,
  λ h. subst (λ (x : List ℕ). judge x ≡ accepts p t) (sym h.1) (valid_accepted p t h.0),
)

-- A file that the judgement refuses is turned back so by every call, with the refusal's number and figure.
pub refused_file : (s : List ℕ) (r : Refusal) → judge s ≡ refuses r → TurnedBack s r
refused_file = turned_back

-- What 4, 5 and 6 mean: the nodes are not one whole term; some variant has an activity twice; none has, and there are
-- more than 4096 variants.
pub unfit_terms : (s : List ℕ)
    → ((judge s ≡ refuses NotOneTerm) ↔ NotWhole s)
    × ((judge s ≡ refuses Twice) ↔ HasTwice s)
    × ((judge s ≡ refuses TooManyVariants) ↔ HasTooMany s)
unfit_terms s = (not_whole s, has_twice s, has_too_many s)

-- CHECK says yes exactly to a timetable that is a feasible session of the variant.
pub check_sessions : (s : List ℕ) (v : ℕ) (timetable : List ℕ)
    → (check_of s v timetable ≡ Ok true) ↔ SessionOf s v timetable
check_sessions = check_yes

-- It says yes to every session that is listed.
pub listed_sessions : (p : Plan) (t : Term) → Valid p t → (v : ℕ) (starts : List ℕ)
    → Memᴰ (v ∷ starts) (pairs p t)
    → is_session p (variant_at t v) (timetable_of p starts) ≡ true
listed_sessions = pair_checks

-- No accepted file is longer than the limit of its edition, 983 or 2175 bytes, and so than the longest of any.
pub longest_file_lem : (s : List ℕ) (p : Plan) (t : Term) → judge s ≡ accepts p t
    → (length s ≤ longest_of p.edition) × (length s ≤ longest)
longest_file_lem = accepted_short

-- Of each edition one is as long.
pub longest_reached : (edition : ℕ) → is_edition edition ≡ true
    → (s : List ℕ) × (p : Plan) × (t : Term) × (judge s ≡ accepts p t) × (p.edition ≡ edition)
    × (length s ≡ longest_of edition)
longest_reached edition e =
    let (accepted, long) = longest_accepted edition e in
    (text (longest_plan edition), longest_plan edition, longest_term, accepted, refl, long)

-- In an accepted plan every group has two children or more. In any such term neither a pick at an x nor rules (3) and
-- (5) make a group of one, so that no written variant has one.
pub groups_kept : ((p : Plan) (t : Term) → Valid p t → full t ≡ true)
    × ((t : Term) (v : ℕ) → v < variant_count t → full t ≡ true
    → (full (variant_at t v) ≡ true) × (full (dissolved (variant_at t v)) ≡ true))
groups_kept = (
  λ p t valid. plan_full p t valid.ranges valid.term,
  λ t v below e. let picked = variant_full t v below e in (picked, dissolved_full (variant_at t v) picked),
)

-- "Twice" says that some variant has an activity at two places, which is so exactly if two of its nodes meet first at
-- an s or p.
pub twice_rule : (ns : List Node) (n : ℕ) (t : Term) → every (is_node n) ns ≡ true → term_of ns ≡ some t
    → ((twice t ≡ true) ↔ ((w : Term) × Memᴰ w (variants t) × Repeats (activities w)))
    × (twice t ≡ clash t)
twice_rule ns n t ranged reads = (twice_means t, twice_clash t (full_term_of ns n t ranged reads))
