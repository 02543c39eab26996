use Rattle.std.proofs.Common.{subst}
use Rattle.chess_board.proofs.LegalMoves.{is_legal}
use Rattle.protocol_tokens.specs.declared.kinds.GoKind.TheVariants as kinds
use Rattle.cecp_lines.specs.Messages.{message_of}
use Rattle.game_record.specs.Game.{current_position}
use Rattle.desk_rules.specs.declared.effect.Effect as code
use Rattle.desk_rules.specs.Desk.{at}
use Rattle.desk_rules.specs.Steps.{effect_of}
use Rattle.desk_rules.specs.Fits.{IsFit}
use Rattle.desk_rules.proofs.Passes.{can_change, can_read, served_few}
use Rattle.desk_rules.proofs.desk.Desk.follow.Goals as goal

pub obey-requires-clause-change : goal.obey-requires-clause-change
obey-requires-clause-change c =
    let h = at c.args.context c.args.self.now in
    let f = subst (λ (d : code.Effect). IsFit h (effect_of d)) c.in-Accepts.is c.requires.fits in
    can_change h f.0 (message_of c.in-Accepts.message) c.requires.pings f.1

pub obey-requires-clause-read : goal.obey-requires-clause-read
obey-requires-clause-read c =
    let h = at c.args.context c.args.self.now in
    let f = subst (λ (d : code.Effect). IsFit h (effect_of d)) c.in-Accepts.is c.requires.fits in
    can_read h f.0 (message_of c.in-Accepts.message) f.1

pub think-requires-clause-heard : goal.think-requires-clause-heard
think-requires-clause-heard c =
    let f = subst (λ (d : code.Effect). IsFit (at c.args.context c.args.self.now) (effect_of d)) c.in-Thinks.is c.requires.fits in
    (f.1.2.line, f.1.2.says)

pub show-requires-clause-legal : goal.show-requires-clause-legal
show-requires-clause-legal c =
    let f = subst (λ (d : code.Effect). IsFit (at c.args.context c.args.self.now) (effect_of d)) c.in-Shows.is c.requires.fits in
    is_legal (current_position c.args.self.now.game) c.in-Shows.best f.1.2

pub show-requires-clause-moves : goal.show-requires-clause-moves
show-requires-clause-moves c =
    let h = at c.args.context c.args.self.now in
    let f = subst (λ (d : code.Effect). IsFit h (effect_of d)) c.in-Shows.is c.requires.fits in
    served_few h kinds.Move c.requires.served f.1.0 f.1.1
