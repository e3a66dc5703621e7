-- The table of a plan: what was given, then the components, the clashes, and the activities of the tight components.
use Prim.Native.Nat.{ℕ, ◌+◌, ◌^◌, ◌≤◌, ◌<◌}
use native.Mathlib.Decide.{dec_lt}
use native.Mathlib.Omega.{arith}
use mathlib.Core.Bool.{◌&&◌}
use mathlib.Core.List.{List}
use mathlib.Core.Logic.{by_cases}
use mathlib.Core.Path.{◌≡◌, sym, ap, ◌∙◌, subst}
use lib.Dec.{ltb}
use lib.ListN.{get_or, set, length-set}
use lib.Seq.{get_or-set_same, get_or-set_other}
use Rattle.std.proofs.lemmas.Bool.Decides.{nat_tests}
use Rattle.plan.specs.Limits.{most_resources, longest_duration}
use Rattle.plan.specs.declared.Tables.{Tables}
use Rattle.sets.specs.Sets.{most, has}
use Rattle.instance.specs.Table.{most_count, component_from, clash_from, resources_cell, tight_cell}
use Rattle.instance.specs.Table.{acts_cell, duration_at, clash_at, units_at, capacity_at, acts_of, tight_of}
use Rattle.instance.specs.Table.{resources_of}
use Rattle.instance.specs.Instance.{own_of, is_tight, row_of, Laid, Given, LaidFrom}
use Rattle.instance.specs.Steps.{Passing, Filled, Columns, Counted, IsComponent, IsClash, Grouped, Apart}
use Rattle.instance.proofs.Same.{SameUnits, units_same, capacity_same, component_test, clash_test, tight_test}
use Rattle.instance.proofs.Same.{counted_same, grouped_same, filled_same, same_joined}

module _ {tables : Tables} {one two : List ℕ} (given : Given tables) (columns : Columns tables one)
    (parted : Filled one component_from tables.acts (λ i x. x ≡ 2 ^ i) two) where
  abbrev acts : ℕ
  acts = tables.acts

  abbrev resources : ℕ
  resources = tables.resources

  -- ---- what was given is in range

  held : (i r : ℕ) → i < acts → r < resources → units_at one i r ≡ get_or (row_of tables i).units r 0
  held i r b d = grind (arith, nat_tests, columns.held i r, tables.acts_held, tables.resources_held)

  capacity_is : (r : ℕ) → r < resources → capacity_at one r ≡ get_or tables.capacity r 0
  capacity_is r d = grind (arith, nat_tests, columns.capacities r, tables.resources_held)

  duration_is : (i : ℕ) → i < acts → duration_at one i ≡ (row_of tables i).duration
  duration_is i b = grind (arith, nat_tests, columns.durations i, tables.acts_held)

  idle : (i : ℕ) → acts ≤ i → i < most → duration_at one i ≡ 0
  idle i b d = grind (arith, nat_tests, columns.durations i)

  capacity_few : (r : ℕ) → r < most_resources → capacity_at one r ≤ most_count
  capacity_few r d = grind (arith, nat_tests, columns.capacities r, given.capacities r)

  alone_fits : (i r : ℕ) → i < acts → r < resources → units_at one i r ≤ capacity_at one r
  alone_fits i r b d = omega (arith, held i r b d, capacity_is r d, given.alone i r b d)

  units_few : (i r : ℕ) → i < most → r < most_resources → units_at one i r ≤ most_count
  units_few i r b d = grind (arith, nat_tests, columns.held i r, alone_fits i r, capacity_few r d)

  counted_one : Counted acts resources one
  counted_one =
      record {
        size = columns.size;
        acts_are = columns.acts_are;
        resources_are = columns.resources_are;
        acts_few = tables.acts_held;
        resources_few = tables.resources_held;
        units_few = units_few;
      }

  -- ---- each activity a component of its own

  same_two : SameUnits one two
  same_two = filled_same counted_one parted (omega (arith, tables.acts_held))

  counted_two : Counted acts resources two
  counted_two = counted_same same_two parted.long counted_one

  -- ---- the components, and the clashes

  module _ {three : List ℕ} (merged : Filled two component_from most (IsComponent two) three) where
    same_three : SameUnits two three
    same_three = filled_same counted_two merged (omega arith)

    counted_three : Counted acts resources three
    counted_three = counted_same same_three merged.long counted_two

    same_first : SameUnits one three
    same_first = same_joined same_two same_three

    pub grouped : Grouped acts resources three
    grouped =
        record {
          counted = counted_three;
          alone = λ i r b d.
              let l : i < most = omega (arith, tables.acts_held) in
              let m : r < most_resources = omega (arith, tables.resources_held) in
              omega (
                arith,
                units_same same_first i r l m,
                capacity_same same_first r m,
                alone_fits i r b d,
              );
          component = λ i b.
              record {
                low = (merged.new i b).low;
                member = λ k l.
                    (merged.new i b).member k (omega (arith, counted_two.acts_are, counted_three.acts_are))
                    ∙ sym (component_test same_three i k);
              };
        }

    module _ {four : List ℕ} (clashed : Filled three clash_from acts (IsClash three) four) where
      same_four : SameUnits three four
      same_four = filled_same counted_three clashed (omega (arith, tables.acts_held))

      grouped_four : Grouped acts resources four
      grouped_four =
          grouped_same same_four clashed.long (λ i b. clashed.before (component_from + i) (omega arith)) grouped

      counted_four : Counted acts resources four
      counted_four = grouped_four.counted

      pub apart : Apart acts (resources_of four) four
      apart =
          subst (λ (n : ℕ). Apart acts n four) (sym counted_four.resources_are)
          (record {
            grouped = grouped_four;
            clash = λ i b.
                record {
                  low = (clashed.new i b).low;
                  member = λ k.
                      (clashed.new i b).member k
                      ∙ sym (clash_test same_four i k (omega (arith, tables.acts_held)));
                };
          })

      -- ---- the whole

      module _ {tight : ℕ} (passing : Passing acts (λ i. is_tight four (own_of four i)) tight) where
        abbrev five : List ℕ
        five = set four tight_cell tight

        kept : (at : ℕ) → at < tight_cell → get_or five at 0 ≡ get_or four at 0
        kept at b = get_or-set_other four tight_cell at tight 0 (λ q. omega arith)

        same_five : SameUnits four five
        same_five =
            record {
              acts_few = omega (arith, counted_four.acts_are, tables.acts_held);
              resources_few = omega (arith, counted_four.resources_are, tables.resources_held);
              acts = get_or-set_other four tight_cell acts_cell tight 0 (λ q. omega arith);
              resources = kept resources_cell (omega arith);
              held = λ at b d. kept at (omega arith);
            }

        grouped_five : Grouped acts resources five
        grouped_five =
            grouped_same same_five (length-set four tight_cell tight)
            (λ i b. kept (component_from + i) (omega arith)) grouped_four

        counted_five : Counted acts resources five
        counted_five = grouped_five.counted

        same : SameUnits one five
        same = same_joined same_first (same_joined same_four same_five)

        units_kept : (i r : ℕ) → i < most → r < most_resources → units_at five i r ≡ units_at one i r
        units_kept = units_same same

        capacity_kept : (r : ℕ) → r < most_resources → capacity_at five r ≡ capacity_at one r
        capacity_kept = capacity_same same

        duration_kept : (i : ℕ) → i < most → duration_at five i ≡ duration_at one i
        duration_kept i b =
            kept i (omega arith)
            ∙ clashed.before i (omega arith)
            ∙ merged.before i (omega arith)
            ∙ parted.before i (omega arith)

        duration_few : (i : ℕ) → i < most → duration_at five i ≤ longest_duration
        duration_few i b =
            by_cases (dec_lt i acts)
            (λ l. omega (arith, duration_kept i b, duration_is i l, given.short i l))
            (λ l. omega (arith, duration_kept i b, idle i (omega arith) b))

        clash_low : (i : ℕ) → i < most → clash_at five i < 2 ^ most
        clash_low i b =
            by_cases (dec_lt i acts)
            (λ l. omega (arith, kept (clash_from + i) (omega arith), (clashed.new i l).low))
            (λ l.
            omega (
              arith,
              kept (clash_from + i) (omega arith),
              clashed.behind (clash_from + i) (omega arith),
              merged.behind (clash_from + i) (omega arith),
              parted.behind (clash_from + i) (omega (arith, tables.acts_held)),
              columns.blank (clash_from + i) (omega arith) (omega arith),
            ))

        acts_in : (i : ℕ) → i < acts_of five → i < acts
        acts_in i b = omega (arith, counted_five.acts_are)

        tight_is : tight_of five ≡ tight
        tight_is = get_or-set_same four tight_cell tight 0 (omega (arith, counted_four.size))

        whole : Laid five
        whole =
            record {
              size = counted_five.size;
              acts = omega (arith, counted_five.acts_are, tables.acts_held);
              resources = omega (arith, counted_five.resources_are, tables.resources_held);
              long = λ i b.
                  let l = acts_in i b in
                  omega (arith, duration_kept i (omega (arith, tables.acts_held)), duration_is i l, given.long i l);
              short = duration_few;
              units = counted_five.units_few;
              capacities = λ r d. omega (arith, capacity_kept r d, capacity_few r d);
              alone = λ i r b d. grouped_five.alone i r (acts_in i b) (omega (arith, counted_five.resources_are));
              component_low = λ i b. (grouped_five.component i b).low;
              component = λ i k b.
                  (grouped_five.component i (omega (arith, counted_five.acts_are, tables.acts_held))).member k b;
              clash_low = clash_low;
              clash = λ i k b.
                  let l = acts_in i b in
                  let m : i < most = omega (arith, tables.acts_held) in
                  ap (λ (x : ℕ). has x k) (kept (clash_from + i) (omega arith))
                  ∙ (apart.clash i l).member k
                  ∙ sym (clash_test same_five i k m);
              tight_low = omega (arith, tight_is, passing.low);
              tight = λ i.
                  ap (λ (x : ℕ). has x i) tight_is
                  ∙ passing.member i
                  ∙ ap (λ (n : ℕ). ltb i n && is_tight four (own_of four i)) (sym counted_four.acts_are)
                  ∙ sym (tight_test same_five i);
            }

        pub laid_from : LaidFrom tables (set four tight_cell tight)
        laid_from =
            record {
              laid = whole;
              acts_are = counted_five.acts_are;
              resources_are = counted_five.resources_are;
              durations = λ i b. duration_kept i (omega (arith, tables.acts_held)) ∙ duration_is i b;
              idle = λ i b d. duration_kept i d ∙ idle i b d;
              held = λ i r b d.
                  units_kept i r (omega (arith, tables.acts_held)) (omega (arith, tables.resources_held)) ∙ held i r b d;
              capacity_is = λ r d. capacity_kept r (omega (arith, tables.resources_held)) ∙ capacity_is r d;
            }
