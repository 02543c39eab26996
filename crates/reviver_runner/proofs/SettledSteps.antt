-- The consequences of a call leave it open whether the life is over, and whether `quit` was accepted.
use Rattle.std.proofs.Common.{◌≡◌, ◌∙◌, Bool, true, false, nat_lt, refl, ap}
use Rattle.protocol_tokens.specs.declared.kinds.GoKind.TheVariants as kinds
use Rattle.engine_revival.specs.declared.state.RevivalState.{RevivalState}
use Rattle.engine_revival.specs.declared.words.DialogueState.{DialogueState}
use Rattle.engine_revival.specs.declared.words.DialogueState.TheVariants as upper
use Rattle.engine_revival.specs.declared.words.LifeState.{LifeState}
use Rattle.engine_revival.specs.declared.words.LifeState.TheVariants as life
use Rattle.engine_revival.specs.Steps.{due_to, after_due, answer_to, after_answer, due_of, state_once_settled}

record Same (s s' : RevivalState) : Type 0 where
  life : s'.life ≡ s.life
  quit : s'.quit ≡ s.quit

answered : (l : LifeState) (u : DialogueState) (s : RevivalState) → Same s (after_answer (answer_to l u) s)
answered life.Over (upper.Search kinds.Ponder true) s = record { life = refl; quit = refl }
answered life.Over (upper.Search kinds.Analyse true) s = record { life = refl; quit = refl }
answered l u s = record { life = refl; quit = refl }

due_quit : (l : LifeState) (q : Bool) (u : DialogueState) (held : Bool) (s : RevivalState) → (after_due (due_to l q u held) s).quit ≡ s.quit
due_quit life.Idle false (upper.Search kind stopped) held s = refl
due_quit life.Idle false u true s = refl
due_quit life.Idle false u false s = refl
due_quit life.Search false u true s = refl
due_quit life.Search false u false s = refl
due_quit l q u held s = refl

pub settled_quit : (s : RevivalState) → (state_once_settled s).quit ≡ s.quit
settled_quit s = (answered s.life s.upper (after_due (due_of s) s)).quit ∙ due_quit s.life s.quit s.upper (nat_lt 0 s.held_ready) s

due_over : (s : RevivalState) → s.life ≡ life.Over → (after_due (due_of s) s).life ≡ life.Over
due_over s h = ap (λ (l : LifeState). (after_due (due_to l s.quit s.upper (nat_lt 0 s.held_ready)) s).life) h ∙ h

pub settled_over : (s : RevivalState) → s.life ≡ life.Over → (state_once_settled s).life ≡ life.Over
settled_over s h = (answered s.life s.upper (after_due (due_of s) s)).life ∙ due_over s h
