-- `text_is` meets its contract: strings are the same just where they are equal in order.
use Rattle.std.proofs.Common.{ap, ◌∙◌}
use Rattle.std.specs.Ordering.{is_eq}
use Rattle.lookup.proofs.StringLaws.{order_same}
use Rattle.lookup.proofs.text_is.Goals as goal

pub returns : goal.returns
returns c = c.is_eq.ensures ∙ ap is_eq c.text_order.ensures ∙ order_same _ _
