-- The lines of bytes that stand after whole lines.
use Rattle.std.proofs.Common.{◌≡◌, ◌≢◌, inl, inr, ℕ, List, [], ◌∷◌, ◌++◌, map, Bool, true, false, cond, refl, sym, ap, subst, ◌∙◌, append_assoc}
use Rattle.std.proofs.lemmas.List.{map-append}
use Rattle.std.specs.List.{onto_first}
use Rattle.line_io.specs.Event.{Event}
use Rattle.line_io.specs.Lines.{Piece, parts_by_feed, is_feed, items, piece_of}
use Rattle.line_io.proofs.Parts.{parts_first}
use Rattle.event_pipe.specs.declared.message.Peer.TheVariants as peers
use Rattle.event_pipe.specs.Message.{is_last_event}
use Rattle.event_pipe.specs.Events.{has_last_event}
use Rattle.event_pipe.specs.Arrivals.{arrivals, piece_event, piece_events, line_limit}
use Rattle.event_loop.specs.First.{first_events, FirstLinesJoin}
use Rattle.event_loop.proofs.Loops.{or_parts}

parts_some : (bs : List ℕ) → parts_by_feed (bs ++ 10 ∷ []) ≢ []
parts_some [] h = cc
parts_some (b ∷ bs) h = let e = sym (parts_first b (bs ++ 10 ∷ [])) ∙ h in cc

onto_more : (b : ℕ) (xs ys : List (List ℕ)) → xs ≢ [] → onto_first b (xs ++ ys) ≡ onto_first b xs ++ ys
onto_more b [] ys n = absurd (n refl)
onto_more b (x ∷ xs) ys n = refl

parts_join : (bs rest : List ℕ) → parts_by_feed (bs ++ 10 ∷ rest) ≡ parts_by_feed (bs ++ 10 ∷ []) ++ parts_by_feed rest
parts_join [] rest = refl
parts_join (b ∷ bs) rest =
    elim (is_feed b) as (λ v. cond v ([] ∷ parts_by_feed (bs ++ 10 ∷ rest)) (onto_first b (parts_by_feed (bs ++ 10 ∷ rest))) ≡ cond v ([] ∷ parts_by_feed (bs ++ 10 ∷ [])) (onto_first b (parts_by_feed (bs ++ 10 ∷ []))) ++ parts_by_feed rest) [
      | true ↦ ap (λ (ps : List (List ℕ)). [] ∷ ps) (parts_join bs rest)
      | false ↦ ap (λ (ps : List (List ℕ)). onto_first b ps) (parts_join bs rest) ∙ onto_more b (parts_by_feed (bs ++ 10 ∷ [])) (parts_by_feed rest) (parts_some bs)
    ]

items_join : (limit : ℕ) (bs rest : List ℕ) → items limit (bs ++ 10 ∷ rest) ≡ items limit (bs ++ 10 ∷ []) ++ items limit rest
items_join limit bs rest = ap (λ (ps : List (List ℕ)). map (piece_of limit) ps) (parts_join bs rest) ∙ map-append (piece_of limit) (parts_by_feed (bs ++ 10 ∷ [])) (parts_by_feed rest)

arrivals_join : (ps qs : List Piece) → has_last_event (piece_events peers.Iface ps) ≡ false → arrivals peers.Iface (ps ++ qs) ≡ piece_events peers.Iface ps ++ arrivals peers.Iface qs
arrivals_join [] qs h = refl
arrivals_join (p ∷ ps) qs h =
    let w = or_parts (is_last_event (piece_event peers.Iface p)) (has_last_event (piece_events peers.Iface ps)) h in
    ap (λ (b : Bool). piece_event peers.Iface p ∷ cond b [] (arrivals peers.Iface (ps ++ qs))) w.0 ∙ ap (λ (es : List Event). piece_event peers.Iface p ∷ es) (arrivals_join ps qs w.1)

pub join : FirstLinesJoin
join first got (inl e) opening = subst (λ (f : List ℕ). arrivals peers.Iface (items line_limit (f ++ got)) ≡ first_events f ++ arrivals peers.Iface (items line_limit got)) (sym e) refl
join first got (inr x) opening =
    let lines = items line_limit (x.0 ++ 10 ∷ []) in
    ap (λ (f : List ℕ). arrivals peers.Iface (items line_limit (f ++ got))) x.1 ∙ ap (λ (f : List ℕ). arrivals peers.Iface (items line_limit f)) (append_assoc x.0 (10 ∷ []) got)
    ∙ ap (λ (ps : List Piece). arrivals peers.Iface ps) (items_join line_limit x.0 got)
    ∙ arrivals_join lines (items line_limit got) (ap (λ (f : List ℕ). has_last_event (first_events f)) (sym x.1) ∙ opening)
    ∙ ap (λ (f : List ℕ). first_events f ++ arrivals peers.Iface (items line_limit got)) (sym x.1)
