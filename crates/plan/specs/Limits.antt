-- The limits and the line forms of the plan file, in all its editions. A later edition changes this file.
use Rattle.std.specs.Prelude.{ℕ, zero, suc, ◌*◌, ◌^◌, Bool, cond, ◌&&◌, List, [], ◌∷◌, ◌++◌, leb}
use Prim.Native.Char.{code}
use Prim.Native.String.{String}

-- The bytes of a quoted text.
abbrev pub bytes : String → List ℕ
bytes String.[] = []
bytes (String.◌∷◌ c s) = code c ∷ bytes s

abbrev pub between : ℕ → ℕ → ℕ → Bool
between low high n = leb low n && leb n high

-- The editions are numbered from 1 on.
abbrev pub last_edition : ℕ
last_edition = 2

-- From the second edition on a plan says how many units a resource has, and how many of each an activity holds. In the
-- first, a resource has one unit, and an activity holds that of its own resource alone.
abbrev pub says_units : ℕ → Bool
says_units edition = leb 2 edition

-- No accepted file of the edition is longer.
abbrev pub longest_of : ℕ → ℕ
longest_of edition = cond (says_units edition) 2175 983

-- Nor one of any edition: refusal 1 goes by this.
abbrev pub longest : ℕ
longest = longest_of last_edition

-- The units of one resource.
abbrev pub most_units : ℕ → ℕ
most_units edition = cond (says_units edition) 15 1

-- A value has no more decimal digits than this.
abbrev pub most_digits : ℕ
most_digits = 5

abbrev pub most_variants : ℕ
most_variants = 4096

-- A resource is a device in the paper's words.
abbrev pub most_resources : ℕ
most_resources = 16

abbrev pub most_acts : ℕ
most_acts = 24

-- In ticks.
abbrev pub longest_duration : ℕ
longest_duration = 20000

-- No active session ends later.
abbrev pub latest_possible : ℕ
latest_possible = most_acts * longest_duration

-- A start, a cell of LIST and a cap are words: they have so many bits and are numbers below this.
abbrev pub word_bits : ℕ
word_bits = 32

abbrev pub word_values : ℕ
word_values = 2 ^ word_bits

abbrev pub most_nodes : ℕ
most_nodes = 64

-- The children of one group.
abbrev pub fewest_children : ℕ
fewest_children = 2

abbrev pub most_children : ℕ
most_children = 63

abbrev pub is_edition : ℕ → Bool
is_edition n = between 1 last_edition n

abbrev pub is_resource_count : ℕ → Bool
is_resource_count n = between 1 most_resources n

abbrev pub is_capacity : ℕ → ℕ → Bool
is_capacity edition n = between 1 (most_units edition) n

abbrev pub is_unit_count : ℕ → ℕ → Bool
is_unit_count edition n = leb n (most_units edition)

abbrev pub is_act_count : ℕ → Bool
is_act_count n = between 1 most_acts n

abbrev pub is_duration : ℕ → Bool
is_duration n = between 1 longest_duration n

abbrev pub is_node_count : ℕ → Bool
is_node_count n = between 1 most_nodes n

abbrev pub is_child_count : ℕ → Bool
is_child_count n = between fewest_children most_children n

-- The form of each kind of line: `#` stands for a value and `@` for a node's letter.
abbrev pub edition_form : List ℕ
edition_form = bytes "plan=#\n"

abbrev pub resources_form : List ℕ
resources_form = bytes "res=#\n"

abbrev pub capacity_form : List ℕ
capacity_form = bytes "cap=#\n"

abbrev pub acts_form : List ℕ
acts_form = bytes "acts=#\n"

-- `act=r,d` in the first edition, then `act=d,u0,..` with a count for each resource.
unfoldable pub counts_form : ℕ → List ℕ
counts_form zero = []
counts_form (suc n) = bytes ",#" ++ counts_form n

abbrev pub act_form : ℕ → ℕ → List ℕ
act_form edition resources =
    cond (says_units edition) (bytes "act=#" ++ (counts_form resources ++ bytes "\n")) (bytes "act=#,#\n")

abbrev pub nodes_form : List ℕ
nodes_form = bytes "nodes=#\n"

abbrev pub node_form : List ℕ
node_form = bytes "node=@,#\n"
