use Rattle.std.proofs.Common.{List, ℕ, ◌∙◌, ap, sym, subst, take}
use Rattle.base.proofs.Lists.{take_replicate}
use Rattle.format.specs.Parse.{Reader, read}
use Rattle.parser.specs.Steps.{Gives}
use Rattle.parser.proofs.Editions.{later_capacities, first_capacities}
use Rattle.parser.proofs.Lines.capacities.Goals as goal

pub returns-then-says_units : goal.returns-then-says_units
returns-then-says_units c =
    let n = c.args.resources in
    subst (λ (reader : Reader (List ℕ)). Gives reader (take {A = ℕ} n) c.args.self.now c.capacity_lines.result
    c.capacity_lines.new.self)
    (sym (later_capacities c.args.edition n (sym c.if-says_units.ensures)))
    c.capacity_lines.ensures

pub returns-else-says_units : goal.returns-else-says_units
returns-else-says_units c =
    let n = c.args.resources in
    let lines = c.args.self.now in
    ap (λ (reader : Reader (List ℕ)). reader lines.number lines.rest.now)
    (first_capacities c.args.edition n (sym c.if-says_units.ensures))
    ∙ ap (λ (bs : List ℕ). read bs lines.number lines.rest.now) (sym (take_replicate 1 n 16 c.requires))
