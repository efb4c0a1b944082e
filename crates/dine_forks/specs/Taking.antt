-- A record that is taken into use: the last vacant one, or the first of those that were never given.
use Rattle.std.specs.Prelude.{◌≡◌, ℕ, nat_lt, Bool, ◌&&◌, if◌then◌else◌, is_none, List, [], ◌∷◌, ◌++◌, length, Option, None, IfSome}
use Rattle.dine_forks.specs.Book.{ForkId}
use Rattle.dine_forks.specs.Lists.{ListEnds, Node, blank_node, cut_list, cut_nodes_in, empty_list, hung_list, node_at}
pub use Rattle.dine_forks.specs.Nodes.{Records}

-- no record is vacant, but one was never given
abbrev pub wants_record : ℕ → List Node → ListEnds → Bool
wants_record room nodes vacant = is_none vacant.last && nat_lt (length nodes) room

-- the nodes once the first of those that were never given is given, where it is wanted
abbrev pub provided_nodes : ℕ → List Node → ListEnds → List Node
provided_nodes room nodes vacant = if wants_record room nodes vacant then nodes ++ blank_node (length nodes) ∷ [] else nodes

-- the list of the vacant ones then
abbrev pub provided_list : ℕ → List Node → ListEnds → ListEnds
provided_list room nodes vacant =
    if wants_record room nodes vacant then hung_list record { number = length nodes } empty_list else vacant

-- the last vacant record was taken out of its list, in which the first that was never given stood where no other was vacant
pub record HasTaken (r : Records) (vacant : ListEnds) (taken : Option ForkId) (r' : Records) (vacant' : ListEnds) : Type 0 where
  pub id : taken ≡ (provided_list r.room r.nodes vacant).last
  pub none : taken ≡ None → (r' ≡ r) × (vacant' ≡ vacant)
  pub some :
      IfSome taken (λ id. let nodes = provided_nodes r.room r.nodes vacant in let links = (node_at nodes id).all in
      (r' ≡ record { room = r.room; nodes = cut_nodes_in None links nodes })
      × (vacant' ≡ cut_list record { previous = links.previous; next = None } (provided_list r.room r.nodes vacant)))
