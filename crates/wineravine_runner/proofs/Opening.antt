-- The interface's first lines set options, and none of them ends its side.
use Rattle.std.proofs.Common.{◌≡◌, ◌∙◌, ℕ, Bool, true, false, ◌||◌, ◌==◌, if◌then◌else◌, List, [], ◌∷◌, ◌++◌, codes, refl, ap, Option, map, nat_le, length}
use Rattle.std.proofs.lemmas.List.{append_assoc}
use Rattle.std.specs.List.{list_any, flat_map, onto_first}
use Rattle.std.specs.Option.{ok_or}
use Rattle.protocol_tokens.specs.Quit.{is_quit}
use Rattle.cecp_lines.specs.Quit.{is_quit_message}
use Rattle.cecp_lines.specs.Reading.{is_empty_text, option_message_of}
use Rattle.cecp_lines.specs.declared.iface.IfaceFault.TheVariants.{BadArgument}
use Rattle.clap.specs.Words.{Row}
use Rattle.event_pipe.specs.declared.message.Peer.TheVariants as peers
use Rattle.event_pipe.specs.Arrivals.{line_limit, piece_event}
use Rattle.event_pipe.specs.Message.{is_last_event}
use Rattle.event_pipe.specs.Events.{has_last_event}
use Rattle.line_io.specs.Event.{has_feed}
use Rattle.line_io.specs.Lines.{Whole, TooLong, is_feed, parts_by_feed, piece_of, line_feed}
use Rattle.event_loop.specs.First.{AreOpening, first_events}
use Rattle.bridge_command_line.specs.Values.{argument_or_empty}
use Rattle.bridge_command_line.specs.WineravineArguments.{first_lines, has_feed_within, wineravine_log_name, wineravine_log_folder, cecp_option_line, options_set}

option_is_no_quit : (o : List ℕ) → is_quit (codes "option " ++ o) ≡ false
option_is_no_quit o = refl

neither : (a b : Bool) → (a || b) ≡ false → (a ≡ false) × (b ≡ false)
neither true b h = absurd (let z : true ≡ false = h in cc)
neither false b h = (refl, h)

onto : (b : Bool) (x : ℕ) (xs : List ℕ) (ps later : List (List ℕ)) → b ≡ false → ps ≡ xs ∷ later
    → (if b then [] ∷ ps else onto_first x ps) ≡ (x ∷ xs) ∷ later
onto true x xs ps later e f = absurd (let z : true ≡ false = e in cc)
onto false x xs ps later e f = ap (onto_first x) f

-- a line is one part
parts_line : (xs later : List ℕ) → has_feed xs ≡ false → parts_by_feed (xs ++ line_feed ∷ later) ≡ xs ∷ parts_by_feed later
parts_line [] later h = refl
parts_line (x ∷ xs) later h =
    let n = neither _ _ h in
    onto (is_feed x) x xs (parts_by_feed (xs ++ line_feed ∷ later)) (parts_by_feed later) n.0 (parts_line xs later n.1)

no_end : (b : Bool) (line : List ℕ) → is_quit line ≡ false → is_last_event (piece_event peers.Iface (if b then Whole line else TooLong)) ≡ false
no_end true line h = h
no_end false line h = refl

both : (a b : Bool) → a ≡ false → b ≡ false → (a || b) ≡ false
both a b e f = rw (e, f) refl

lines_open : (os : List (List ℕ)) → list_any has_feed os ≡ false → has_last_event (first_events (flat_map cecp_option_line os)) ≡ false
lines_open [] h = refl
lines_open (o ∷ os) h =
    let n = neither _ _ h in
    let line = codes "option " ++ o in
    let rest = flat_map cecp_option_line os in
    let cut : parts_by_feed (cecp_option_line o ++ rest) ≡ line ∷ parts_by_feed rest =
    ap parts_by_feed (append_assoc line (line_feed ∷ []) rest) ∙ parts_line line rest n.0 in
    ap (λ (ps : List (List ℕ)). has_last_event (map (piece_event peers.Iface) (map (piece_of line_limit) ps))) cut
    ∙ both _ _ (no_end (nat_le (length line) line_limit) line (option_is_no_quit o)) (lines_open os n.1)

pub are_opening : (rows : List Row) → has_feed_within rows ≡ false → AreOpening (first_lines rows)
are_opening rows h =
    let after = (neither (has_feed (wineravine_log_name rows)) _ h).1 in
    lines_open (options_set rows) (neither (has_feed (argument_or_empty (wineravine_log_folder rows))) _ after).1
