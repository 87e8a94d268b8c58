use Rattle.std.proofs.Common.{refl}
use Rattle.query_json.proofs.Pieces.{ones}
use Rattle.query_json.proofs.items.Items.piece_count.Goals as goal

pub returns-in-Names-clause-count : goal.returns-in-Names-clause-count
returns-in-Names-clause-count c = ones c.args.self.now _ _ c.args.item c.in-Names.is refl c.requires.item

pub returns-in-Operations-clause-count : goal.returns-in-Operations-clause-count
returns-in-Operations-clause-count c = ones c.args.self.now _ _ c.args.item c.in-Operations.is refl c.requires.item

pub returns-in-Ids-clause-count : goal.returns-in-Ids-clause-count
returns-in-Ids-clause-count c = ones c.args.self.now _ _ c.args.item c.in-Ids.is refl c.requires.item

pub returns-in-Links-clause-count : goal.returns-in-Links-clause-count
returns-in-Links-clause-count c = ones c.args.self.now _ _ c.args.item c.in-Links.is refl c.requires.item
