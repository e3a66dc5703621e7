-- The search for the next fit behind a tick by which all of a set have started: the profile only falls.
use Prim.Native.Nat.{ℕ, ◌+◌, ◌≤◌, ◌<◌, max}
use native.Mathlib.Decide.{ℕ_discrete, dec_lt}
use native.Mathlib.Omega.{arith}
use mathlib.Core.Bool.{true, false, ◌&&◌}
use mathlib.Core.List.{List}
use mathlib.Core.Logic.{◌≢◌, by_cases}
use mathlib.Core.Path.{◌≡◌, refl, sym, ap, ◌∙◌, subst}
use lib.Bits.{bit_and, and_le_l}
use lib.Dec.{ltb}
use borrow.Author.Tests.{ltb-true, lt-ltb}
use Rattle.base.proofs.Bools.{true_not_false, same_bool, both, and_left, and_right}
use Rattle.plan.specs.Limits.{latest_possible}
use Rattle.sets.specs.Sets.{has}
use Rattle.sets.proofs.Laws.{has_and}
use Rattle.instance.specs.Table.{duration_at, clash_at}
use Rattle.profile.specs.Work.{end_at, latest_of, LeastEnd}
use Rattle.profile.specs.Room.{Among, runs_at, Running, Behind, is_left, has_room_at, FitsAt, NextFit}
use Rattle.profile.specs.Room.{Late, Opens}
use Rattle.profile.proofs.Ends.{latest_reached}
use Rattle.profile.proofs.Room.{Runs, runs_is, runs_of, room_fewer, room_left, room_none, among_running}

-- ---- the end up to which there is no room

module _ (t w : List ℕ) (set i : ℕ) (among : Among t w set i) where
  -- The latest of those that can never run together with i.
  pub opens_clash : (r clash : ℕ) → clash ≡ bit_and set (clash_at t i) → clash ≢ 0 → r ≡ latest_of w clash
      → Opens t w set i r
  opens_clash r clash is some last =
      let two : (k : ℕ) → has clash k ≡ true → (has set k && has (clash_at t i) k) ≡ true =
      λ k y. sym (has_and set (clash_at t i) k) ∙ ap (λ (z : ℕ). has z k) (sym is) ∙ y in
      let there : (k : ℕ) → has clash k ≡ true → has set k ≡ true =
      λ k y. and_left (has set k) (has (clash_at t i) k) (two k y) in
      let (k, y, e) =
      latest_reached w clash r (omega (arith, is, and_le_l set (clash_at t i), among.low)) some
      (λ j y. omega (arith, among.laid.long j (among.acts j (there j y)), among.started j (there j y)))
      last in
      record {
        end = (k, there k y, e);
        none =
            λ u begun before.
            room_none t w set i among u k
            (record { there = there k y; begins = begun k (there k y); ends = omega arith })
            (and_right (has set k) (has (clash_at t i) k) (two k y));
      }

  -- Before the least end all run.
  pub opens_least : (r : ℕ) → is_left t set i ≡ false → LeastEnd w set r → Opens t w set i r
  opens_least r full least =
      record {
        end = least.end;
        none =
            λ u begun before.
            let running : Running t w set u u set =
            record {
              low = among.low;
              runs =
                  λ k.
                  same_bool (has set k) (runs_at t w set u k)
                  (λ y.
                  runs_of t w set u u k
                  (record { there = y; begins = begun k y; ends = omega (arith, least.least k y) }))
                  (λ y. (runs_is t w set u u k y).there);
            } in
            sym (room_left t w set i u running) ∙ full;
      }

-- ---- from end to end

-- i fits on no tick from x up to `tick`, and beside it then run those of `beside`.
pub record Falling (t w : List ℕ) (set i x start tick beside : ℕ) : Type 0 where
  pub running : Running t w set (max tick start) (max tick start) beside
  pub since : x ≤ tick
  pub early : tick ≤ latest_possible
  pub behind : tick ≢ x → start < tick
  pub end : (tick ≡ x → ⊥) → (k : ℕ) × (has set k ≡ true) × (tick ≡ end_at w k)
  pub none : (z : ℕ) → x ≤ z → z < tick → FitsAt t w set i z → ⊥

module _ (t w : List ℕ) (set live i x start : ℕ) (late : Late t w set live i x start) where
  -- Those that end behind a tick after `start` run on it.
  running_behind : (from tick r : ℕ) → start ≤ tick → Behind w from tick r
      → ((k : ℕ) → has from k ≡ true → has set k ≡ true)
      → ((k : ℕ) → has set k ≡ true → tick < end_at w k → has from k ≡ true)
      → Running t w set tick tick r
  running_behind from tick r after ends inside all =
      record {
        low = ends.low;
        runs =
            λ k.
            ends.members k
            ∙ same_bool (has from k && ltb tick (end_at w k)) (runs_at t w set tick k)
            (λ y.
            let there = inside k (and_left (has from k) (ltb tick (end_at w k)) y) in
            runs_of t w set tick tick k
            (record {
              there = there;
              begins = omega (arith, late.begun k there);
              ends = ltb-true tick (end_at w k) (and_right (has from k) (ltb tick (end_at w k)) y);
            }))
            (λ y.
            let runs = runs_is t w set tick tick k y in
            both (all k runs.there runs.ends) (lt-ltb tick (end_at w k) runs.ends));
      }

  pub falling : (tick beside : ℕ) → x ≤ latest_possible → tick ≡ max x start → Behind w live tick beside
      → Falling t w set i x start x beside
  falling tick beside low is ends =
      record {
        running =
            subst (λ (u : ℕ). Running t w set u u beside) is
            (running_behind live tick beside (omega arith) ends late.within
            (λ k y l. late.kept k y (omega arith)));
        since = omega arith;
        early = low;
        behind = λ ne. absurd (ne refl);
        end = λ ne. absurd (ne refl);
        none = λ z a b fits. omega arith;
      }

  module _ {tick beside : ℕ} (so_far : Falling t w set i x start tick beside) where
    abbrev at : ℕ
    at = max tick start

    pub falling_among : Among t w beside i
    falling_among = among_running t w set i late.among so_far.running

    runs_beside : (k : ℕ) → has beside k ≡ true → Runs t w set at at k
    runs_beside k y = runs_is t w set at at k (sym (so_far.running.runs k) ∙ y)

    module _ {next : ℕ} (opens : Opens t w beside i next) where
      pub falls_later : at < next
      falls_later = let (k, y, e) = opens.end in omega (arith, (runs_beside k y).ends)

      no_room : (u : ℕ) → at ≤ u → u < next → has_room_at t w set i u ≡ true → ⊥
      no_room u from to room =
          true_not_false
          (room_fewer t w beside set i u u
          (λ k runs.
          record { there = (runs_beside k runs.there).there; begins = runs.begins; ends = runs.ends })
          room)
          (opens.none u (λ k y. omega (arith, (runs_beside k y).begins)) to)

      pub falls : {beside' : ℕ} → Behind w beside next beside' → Falling t w set i x start next beside'
      falls {beside'} ends =
          let (j, in-j, last) = opens.end in
          let later = falls_later in
          record {
            running =
                subst (λ (u : ℕ). Running t w set u u beside') {x = next} {y = max next start} (omega arith)
                (running_behind beside next beside' (omega arith) ends (λ k y. (runs_beside k y).there)
                (λ k y l.
                so_far.running.runs k
                ∙ runs_of t w set at at k
                (record { there = y; begins = omega (arith, late.begun k y); ends = omega arith })));
            since = omega (arith, so_far.since);
            early = omega (arith, late.among.timed.times j);
            behind = λ ne. omega arith;
            end = λ ne. (j, (runs_beside j in-j).there, last);
            none =
                λ z a b fits.
                by_cases
                (dec_lt z tick)
                (λ l. so_far.none z a l fits)
                (λ g.
                no_room (max z at) (omega arith) (omega arith)
                (fits (max z at) (omega arith) (ends_over z (omega arith))));
          }
        where
          -- A start from there on still runs on tick `start`.
          ends_over : (z : ℕ) → tick ≤ z → max z at < z + duration_at t i
          ends_over z from =
              let long : 1 ≤ duration_at t i = late.among.laid.long i late.among.own in
              by_cases
              (ℕ_discrete tick x)
              (λ e. omega (arith, late.over))
              (λ ne. omega (arith, so_far.behind ne))

    pub fallen : is_left t beside i ≡ true → NextFit t w set i x tick
    fallen left =
        record {
          fits =
              λ u from to.
              by_cases
              (dec_lt u start)
              (λ l.
              by_cases
              (ℕ_discrete tick x)
              (λ e. late.room u (omega arith) l)
              (λ ne. absurd (omega (arith, so_far.behind ne))))
              (λ g.
              room_fewer t w set set i u at
              (λ k runs.
              record {
                there = runs.there;
                begins = omega (arith, late.begun k runs.there);
                ends = omega (arith, runs.ends);
              })
              (sym (room_left t w set i at so_far.running) ∙ left));
          from = so_far.since;
          end = so_far.end;
          none = so_far.none;
        }
