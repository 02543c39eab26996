-- Lines that are kept in a buffer.
use Rattle.std.proofs.Common.{◌≡◌, ℕ, ◌+◌, ◌≤◌, List, [], ◌∷◌, ◌++◌, true, false, not, cond, length, take, drop, refl, sym, ap, ◌∙◌, subst, arith, length-append}
use Rattle.std.proofs.lemmas.List.{map-append, take-append-le, drop-append-le, length-drop}
use Rattle.std.proofs.Math.Seq.{drop-append_seam, take-append_seam}
use Rattle.engine_revival.specs.Orders.{RevivalOrder, revival_order_text}
use Rattle.engine_revival.specs.declared.order_list.LineSpan.{LineSpan}
use Rattle.engine_revival.specs.Lists.{are_for_same, revival_orders_staying, revival_batch_text}
use Rattle.engine_revival.specs.Kept.{line_at, spelled, SpellsRevivalOrder, orders_at, IsLineIn, SpansAreIn}

line_stays : (texts more : List ℕ) (s : LineSpan) → s.at + s.len ≤ length texts → line_at (texts ++ more) s ≡ line_at texts s
line_stays texts more s h =
    ap (λ (t : List ℕ). take s.len t) (drop-append-le s.at texts more (omega arith))
    ∙ take-append-le s.len (drop s.at texts) more (omega (arith, length-drop s.at texts, h))

is_in_stays : (texts more : List ℕ) (s : LineSpan) → IsLineIn texts s → IsLineIn (texts ++ more) s
is_in_stays texts more s h = record {
  within = omega (arith, h.within, length-append texts more);
  spells = subst (λ (l : List ℕ). SpellsRevivalOrder l) (sym (line_stays texts more s h.within)) h.spells;
}

in_more : (texts more : List ℕ) (ls : List LineSpan) (s : LineSpan) → SpansAreIn texts ls → IsLineIn (texts ++ more) s → SpansAreIn (texts ++ more) (ls ++ s ∷ [])
in_more texts more [] s h k = (k, tt)
in_more texts more (l ∷ ls) s h k = (is_in_stays texts more l h.0, in_more texts more ls s h.1 k)

orders_stay : (texts more : List ℕ) (ls : List LineSpan) → SpansAreIn texts ls → orders_at (texts ++ more) ls ≡ orders_at texts ls
orders_stay texts more [] h = refl
orders_stay texts more (l ∷ ls) h =
    ap (λ (t : List ℕ). spelled t ∷ orders_at (texts ++ more) ls) (line_stays texts more l h.0.within)
    ∙ ap (λ (cs : List RevivalOrder). spelled (line_at texts l) ∷ cs) (orders_stay texts more ls h.1)

-- the line that was put last
last_line : (texts line : List ℕ) (s : LineSpan) → s.at ≡ length texts → s.len ≡ length line → line_at (texts ++ (line ++ 10 ∷ [])) s ≡ line
last_line texts line s e f =
    ap (λ n. take s.len (drop n (texts ++ (line ++ 10 ∷ [])))) e
    ∙ ap (λ (t : List ℕ). take s.len t) (drop-append_seam texts (line ++ 10 ∷ []))
    ∙ ap (λ n. take n (line ++ 10 ∷ [])) f
    ∙ take-append_seam line (10 ∷ [])

pub put_orders : (texts line new : List ℕ) (ls after : List LineSpan) (s : LineSpan) → new ≡ texts ++ (line ++ 10 ∷ []) → after ≡ ls ++ s ∷ [] → s.at ≡ length texts → s.len ≡ length line → SpansAreIn texts ls → orders_at new after ≡ orders_at texts ls ++ spelled line ∷ []
put_orders texts line new ls after s e f at len h =
    let all = texts ++ (line ++ 10 ∷ []) in
    ap (λ (t : List ℕ). orders_at t after) e
    ∙ ap (λ (l : List LineSpan). orders_at all l) f
    ∙ map-append (λ (l : LineSpan). spelled (line_at all l)) ls (s ∷ [])
    ∙ ap (λ (cs : List RevivalOrder). cs ++ spelled (line_at all s) ∷ []) (orders_stay texts (line ++ 10 ∷ []) ls h)
    ∙ ap (λ (t : List ℕ). orders_at texts ls ++ spelled t ∷ []) (last_line texts line s at len)

pub put_within : (texts line new : List ℕ) (ls after : List LineSpan) (s : LineSpan) → new ≡ texts ++ (line ++ 10 ∷ []) → after ≡ ls ++ s ∷ [] → s.at ≡ length texts → s.len ≡ length line → SpansAreIn texts ls → SpellsRevivalOrder line → SpansAreIn new after
put_within texts line new ls after s e f at len h k =
    let all = texts ++ (line ++ 10 ∷ []) in
    let last : IsLineIn all s = record {
      within = omega (arith, at, len, length-append texts (line ++ 10 ∷ []), length-append line (10 ∷ []));
      spells = subst (λ (l : List ℕ). SpellsRevivalOrder l) (sym (last_line texts line s at len)) k;
    } in
    subst (λ (t : List ℕ). SpansAreIn t after) (sym e) (subst (λ (l : List LineSpan). SpansAreIn all l) (sym f) (in_more texts (line ++ 10 ∷ []) ls s h last))

-- WHAT STAYS

pub stays_here : (asked : RevivalOrder) (texts : List ℕ) (all after : List LineSpan) (s : LineSpan) → all ≡ s ∷ after → are_for_same asked (spelled (line_at texts s)) ≡ false → revival_orders_staying asked (orders_at texts all) ≡ spelled (line_at texts s) ∷ revival_orders_staying asked (orders_at texts after)
stays_here asked texts all after s e h =
    let rest = revival_orders_staying asked (orders_at texts after) in
    ap (λ (l : List LineSpan). revival_orders_staying asked (orders_at texts l)) e ∙ ap (λ w. cond (not w) (spelled (line_at texts s) ∷ rest) rest) h

pub gives_way : (asked : RevivalOrder) (texts : List ℕ) (all after : List LineSpan) (s : LineSpan) → all ≡ s ∷ after → are_for_same asked (spelled (line_at texts s)) ≡ true → revival_orders_staying asked (orders_at texts all) ≡ revival_orders_staying asked (orders_at texts after)
gives_way asked texts all after s e h =
    let rest = revival_orders_staying asked (orders_at texts after) in
    ap (λ (l : List LineSpan). revival_orders_staying asked (orders_at texts l)) e ∙ ap (λ w. cond (not w) (spelled (line_at texts s) ∷ rest) rest) h

-- HOW LONG LISTS ARE

pub batch_first : (c : RevivalOrder) (cs : List RevivalOrder) → length (revival_batch_text (c ∷ cs)) ≡ length (revival_order_text c) + 1 + length (revival_batch_text cs)
batch_first c cs = omega (arith, length-append (revival_order_text c ++ 10 ∷ []) (revival_batch_text cs), length-append (revival_order_text c) (10 ∷ []))

pub batch_last : (cs : List RevivalOrder) (c : RevivalOrder) → length (revival_batch_text (cs ++ c ∷ [])) ≡ length (revival_batch_text cs) + (length (revival_order_text c) + 1)
batch_last [] c = omega (arith, batch_first c [])
batch_last (x ∷ xs) c = omega (arith, batch_first x (xs ++ c ∷ []), batch_first x xs, batch_last xs c)

-- the first line of those that are kept, as it is written
pub first_line : (texts : List ℕ) (all after : List LineSpan) (s : LineSpan) → all ≡ s ∷ after → SpansAreIn texts all → revival_batch_text (orders_at texts all) ≡ (line_at texts s ++ 10 ∷ []) ++ revival_batch_text (orders_at texts after)
first_line texts all after s e h =
    let within : IsLineIn texts s = (subst (λ (l : List LineSpan). SpansAreIn texts l) e h).0 in
    ap (λ (l : List LineSpan). revival_batch_text (orders_at texts l)) e
    ∙ ap (λ (t : List ℕ). (t ++ 10 ∷ []) ++ revival_batch_text (orders_at texts after)) (sym within.spells.text)
