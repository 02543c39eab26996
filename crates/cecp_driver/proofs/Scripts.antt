-- One event more.
use Rattle.std.proofs.Common.{◌≡◌, ℕ, List, [], ◌∷◌, ◌++◌, refl, sym, ap, ◌∙◌, append_assoc, append-nil}
use Rattle.line_io.specs.Event.{Event}
use Rattle.cecp_driver.specs.declared.driver.DriverParts.{DriverParts}
use Rattle.cecp_driver.specs.Script.{DriverTakes, DriverTakesAll, given_marks, last_of, script_text, driver_lines_up, lines_down}

pub goes_more : (v : DriverParts) (events : List Event) (after : List DriverParts) (event : Event) (v' : DriverParts) → DriverTakesAll v events after → DriverTakes event (last_of v after) v' → DriverTakesAll v (events ++ event ∷ []) (after ++ v' ∷ [])
goes_more v [] [] event v' g t = (t, tt)
goes_more v [] (w ∷ later) event v' g t = absurd g
goes_more v (e ∷ es) [] event v' g t = absurd g
goes_more v (e ∷ es) (w ∷ later) event v' g t = (g.0, goes_more w es later event v' g.1 t)

pub last_more : (v : DriverParts) (after : List DriverParts) (v' : DriverParts) → last_of v (after ++ v' ∷ []) ≡ v'
last_more v [] v' = refl
last_more v (w ∷ later) v' = last_more w later v'

pub text_more : (v : DriverParts) (events : List Event) (after : List DriverParts) (event : Event) (v' : DriverParts) → DriverTakesAll v events after → script_text (events ++ event ∷ []) (after ++ v' ∷ []) ≡ script_text events after ++ given_marks event v'
text_more v [] [] event v' g = append-nil (given_marks event v')
text_more v [] (w ∷ later) event v' g = absurd g
text_more v (e ∷ es) [] event v' g = absurd g
text_more v (e ∷ es) (w ∷ later) event v' g =
    ap (λ (t : List ℕ). given_marks e w ++ t) (text_more w es later event v' g.1) ∙ sym (append_assoc (given_marks e w) (script_text es later) (given_marks event v'))

pub up_more : (after : List DriverParts) (v' : DriverParts) → driver_lines_up (after ++ v' ∷ []) ≡ driver_lines_up after ++ v'.up.text
up_more [] v' = append-nil v'.up.text
up_more (w ∷ later) v' = ap (λ (t : List ℕ). w.up.text ++ t) (up_more later v') ∙ sym (append_assoc w.up.text (driver_lines_up later) v'.up.text)

pub down_more : (after : List DriverParts) (v' : DriverParts) → lines_down (after ++ v' ∷ []) ≡ lines_down after ++ v'.down.text
down_more [] v' = append-nil v'.down.text
down_more (w ∷ later) v' = ap (λ (t : List ℕ). w.down.text ++ t) (down_more later v') ∙ sym (append_assoc w.down.text (lines_down later) v'.down.text)
