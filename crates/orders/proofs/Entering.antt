-- The book with one more entry.
use Prim.Native.Nat.{ℕ, ◌+◌, ◌-◌, ◌*◌, ◌^◌, ◌≤◌, ◌<◌}
use native.Mathlib.Decide.{ℕ_discrete}
use native.Mathlib.Omega.{arith}
use mathlib.Core.List.{List, [], ◌++◌, append-nil}
use mathlib.Core.Logic.{◌≢◌, by_cases}
use mathlib.Core.Path.{◌≡◌, refl, sym, ap, subst, ◌∙◌}
use lib.ListN.{length, get_or, set, take, drop, length-set, length-drop, length-append, drop_of_length-le}
use lib.ListN.{get_or-append}
use lib.Seq.{get_or-set_same, get_or-set_other, get_or-append-add, get_or-take, length-take-le}
use Rattle.sets.specs.Sets.{most}
use Rattle.orders.specs.Book.{Nearest, Book, Entered, entry_cells, order_from, cell_at, present_cell, bucket_cell}
use Rattle.orders.specs.Book.{same_cell, present_at, bucket_at, same_at, order_at, itself, bucket_of, buckets}
use Rattle.orders.specs.Book.{heads_cells, entries_of, Written}
use Rattle.orders.proofs.Links.{part_from, rest_length, nearest_same}

-- An entry stands behind the first n.
record Added (s head link : ℕ) (preds : List ℕ) (n : ℕ) (b b' : List ℕ) : Type 0 where
  size : length b' ≡ length b
  present : present_at b' n ≡ s
  bucket : bucket_at b' n ≡ head
  same : same_at b' n ≡ link
  order : (j : ℕ) → j < most → order_at b' n j ≡ get_or preds j 0
  before : (e c : ℕ) → e < n → c < entry_cells → cell_at b' e c ≡ cell_at b e c

-- The book with a part that came back.
abbrev rejoined : List ℕ → ℕ → List ℕ → List ℕ
rejoined b at part = take at b ++ (part ++ drop (length b - at) (drop at b))

-- The part of the book behind the first n came back with the entry in front.
module _ (s head link : ℕ) (preds : List ℕ) (n : ℕ) (b entry : List ℕ) (room : entry_cells * (n + 1) ≤ length b)
    (h : Written s head link preds (part_from b (n * entry_cells)) entry) where
  abbrev place : ℕ
  place = n * entry_cells

  abbrev back : List ℕ
  back = rejoined b place entry

  short : length (take place b) ≡ place
  short = length-take-le place b (omega arith)

  behind : drop (length b - place) (drop place b) ≡ []
  behind = drop_of_length-le (drop place b) {i = length b - place} (omega (arith, length-drop place b))

  in_entry : (c : ℕ) → cell_at back n c ≡ get_or entry c 0
  in_entry c =
      let at : entry_cells * n + c ≡ length (take place b) + c = omega (arith, short) in
      ap (λ (i : ℕ). get_or back i 0) at
      ∙ get_or-append-add (take place b) (entry ++ drop (length b - place) (drop place b)) c 0
      ∙ ap (λ (l : List ℕ). get_or (entry ++ l) c 0) behind
      ∙ ap (λ (l : List ℕ). get_or l c 0) (append-nil entry)

  added : Added s head link preds n b back
  added =
      record {
        size =
            length-append (take place b) (entry ++ drop (length b - place) (drop place b))
            ∙ omega (
              arith,
              short,
              length-append entry (drop (length b - place) (drop place b)),
              ap length behind,
              h.size,
              rest_length b place,
            );
        present = in_entry present_cell ∙ h.present;
        bucket = in_entry bucket_cell ∙ h.bucket;
        same = in_entry same_cell ∙ h.same;
        order = λ j l. in_entry (order_from + j) ∙ h.order j l;
        before = λ e c l m.
            get_or-append (take place b) (entry ++ drop (length b - place) (drop place b)) 0 (entry_cells * e + c)
            (omega (arith, short))
            ∙ get_or-take place b (entry_cells * e + c) 0 (omega arith);
      }

-- The last entry of the bucket of s is the next one, which counts.
abbrev headed : ℕ → List ℕ → List ℕ
headed s heads = set (set heads (bucket_of s) (entries_of heads + 1)) buckets (entries_of heads + 1)

module _ (s link : ℕ) (preds heads b b' : List ℕ) (book : Book heads b) where
  abbrev n : ℕ
  n = entries_of heads

  abbrev counted : List ℕ
  counted = headed s heads

  module _ (nearest : Nearest itself b n s link) (room : entry_cells * (n + 1) ≤ length b)
      (low : (j : ℕ) → j < most → get_or preds j 0 < 2 ^ most)
      (h : Added s (get_or heads (bucket_of s) 0) link preds n b b') where
    size_one : length (set heads (bucket_of s) (n + 1)) ≡ heads_cells
    size_one = length-set heads (bucket_of s) (n + 1) ∙ book.size

    count : entries_of counted ≡ n + 1
    count = get_or-set_same (set heads (bucket_of s) (n + 1)) buckets (n + 1) 0 (omega (arith, size_one))

    other_head : (i : ℕ) → i < buckets → get_or counted i 0 ≡ get_or (set heads (bucket_of s) (n + 1)) i 0
    other_head i l = get_or-set_other (set heads (bucket_of s) (n + 1)) buckets i (n + 1) 0 (λ q. omega arith)

    present_before : (e : ℕ) → e < n → present_at b' e ≡ present_at b e
    present_before e l = h.before e present_cell l (omega arith)

    -- what holds of the entries below n in the new book holds of one more that has not the activities
    one_further : (r k : ℕ) → s ≢ r → Nearest bucket_of b n r k → Nearest bucket_of b' (n + 1) r k
    one_further r k ne old =
        let kept = nearest_same bucket_of b b' n r r k k present_before refl refl old in
        record {
          upto = omega (arith, kept.upto);
          alike = kept.alike;
          none = λ e l below.
              by_cases
              (ℕ_discrete e n)
              (λ q p. ne (sym h.present ∙ ap (present_at b') (sym q) ∙ p))
              (λ other. kept.none e l (omega arith));
        }

    head : (r : ℕ) → Nearest bucket_of b' (n + 1) r (get_or counted (bucket_of r) 0)
    head r =
        by_cases
        (ℕ_discrete (bucket_of r) (bucket_of s))
        (λ e.
        let last : get_or counted (bucket_of r) 0 ≡ n + 1 =
        other_head (bucket_of r) (omega arith) ∙ ap (λ (i : ℕ). get_or (set heads (bucket_of s) (n + 1)) i 0) e
        ∙ get_or-set_same heads (bucket_of s) (n + 1) 0 (omega (arith, book.size)) in
        record {
          upto = omega arith;
          alike = λ some.
              let at : get_or counted (bucket_of r) 0 - 1 ≡ n = omega arith in
              ap bucket_of (ap (present_at b') at ∙ h.present) ∙ sym e;
          none = λ i l below. absurd (omega arith);
        })
        (λ ne.
        let kept : get_or counted (bucket_of r) 0 ≡ get_or heads (bucket_of r) 0 =
        other_head (bucket_of r) (omega arith) ∙ get_or-set_other heads (bucket_of s) (bucket_of r) (n + 1) 0 ne in
        subst (Nearest bucket_of b' (n + 1) r) (sym kept)
        (one_further r (get_or heads (bucket_of r) 0) (λ q. ne (ap bucket_of (sym q))) (book.head r)))

    next : (e r : ℕ) → e < n + 1 → bucket_of (present_at b' e) ≡ bucket_of r → Nearest bucket_of b' e r (bucket_at b' e)
    next e r below q =
        by_cases
        (ℕ_discrete e n)
        (λ last.
        subst (λ (i : ℕ). Nearest bucket_of b' i r (bucket_at b' i)) (sym last)
        (nearest_same bucket_of b b' n r r (get_or heads (bucket_of r) 0) (bucket_at b' n) present_before refl
        (h.bucket
        ∙ ap (λ (i : ℕ). get_or heads i 0) (ap bucket_of (sym h.present ∙ ap (present_at b') (sym last)) ∙ q))
        (book.head r)))
        (λ ne.
        let l : e < n = omega arith in
        nearest_same bucket_of b b' e r r (bucket_at b e) (bucket_at b' e) (λ i m. present_before i (omega arith)) refl
        (h.before e bucket_cell l (omega arith))
        (book.next e r l (ap bucket_of (sym (present_before e l)) ∙ q)))

    same : (e : ℕ) → e < n + 1 → Nearest itself b' e (present_at b' e) (same_at b' e)
    same e below =
        by_cases
        (ℕ_discrete e n)
        (λ last.
        subst (λ (i : ℕ). Nearest itself b' i (present_at b' i) (same_at b' i)) (sym last)
        (nearest_same itself b b' n s (present_at b' n) link (same_at b' n) present_before h.present h.same
        nearest))
        (λ ne.
        let l : e < n = omega arith in
        nearest_same itself b b' e (present_at b e) (present_at b' e) (same_at b e) (same_at b' e)
        (λ i m. present_before i (omega arith)) (present_before e l) (h.before e same_cell l (omega arith))
        (book.same e l))

    low_order : (e j : ℕ) → e < n + 1 → j < most → order_at b' e j < 2 ^ most
    low_order e j below l =
        by_cases
        (ℕ_discrete e n)
        (λ last. omega (arith, ap (λ (i : ℕ). order_at b' i j) last, h.order j l, low j l))
        (λ ne.
        omega (arith, h.before e (order_from + j) (omega arith) (omega arith), book.low e j (omega arith) l))

    entered : Entered s preds heads b counted b'
    entered =
        record {
          book =
              record {
                size = length-set (set heads (bucket_of s) (n + 1)) buckets (n + 1) ∙ size_one;
                room = omega (arith, count, h.size, room);
                head = λ r.
                    subst (λ (i : ℕ). Nearest bucket_of b' i r (get_or counted (bucket_of r) 0)) (sym count) (head r);
                next = λ e r l. next e r (omega (arith, count));
                same = λ e l. same e (omega (arith, count));
                low = λ e j l. low_order e j (omega (arith, count));
              };
          size = h.size;
          one_more = count;
          present = h.present;
          order = h.order;
          before = h.before;
        }

pub enters : (s link : ℕ) (preds heads b entry : List ℕ) → Book heads b → Nearest itself b (entries_of heads) s link
    → entry_cells * (entries_of heads + 1) ≤ length b
    → ((j : ℕ) → j < most → get_or preds j 0 < 2 ^ most)
    → Written s (get_or heads (bucket_of s) 0) link preds (part_from b (entries_of heads * entry_cells)) entry
    → Entered s preds heads b (headed s heads) (rejoined b (entries_of heads * entry_cells) entry)
enters s link preds heads b entry book nearest room low written =
    entered s link preds heads b (rejoined b (entries_of heads * entry_cells) entry) book nearest room low
    (added s (get_or heads (bucket_of s) 0) link preds (entries_of heads) b entry room written)
