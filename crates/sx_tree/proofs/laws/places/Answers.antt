use Rattle.sx_tree.proofs.laws.places.Goals as goal
use Rattle.sx_tree.proofs.Listing.{places_of-is}

pub returns : goal.returns
returns c = places_of-is
