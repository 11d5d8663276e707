-- One name that opens every definition, for the pages that compute worked cases; it says nothing itself. Assumes nothing.
use Rattle.counting.specs.Below as Below
use Rattle.counting.specs.Larger as Larger
use Rattle.counting.specs.Lists as Lists
use Rattle.graph.specs.Graph as Graph
use Rattle.graph.specs.Peeling as Peeling
use Rattle.graph.specs.Waiting as Waiting
use Rattle.graph.specs.Assignment as Assignment
use Rattle.directory.specs.Sizes as Sizes
use Rattle.directory.specs.Codes as Codes
use Rattle.directory.specs.Kind as Kind
use Rattle.directory.specs.Bytes as Bytes
use Rattle.directory.specs.Refusals as Refusals
use Rattle.directory.specs.Values as Values
use Rattle.directory.specs.Leads as Leads
use Rattle.directory.specs.File as File
use Rattle.directory.specs.Building as Building
use Rattle.directory.specs.Opening as Opening
use Rattle.directory.specs.LookingUp as LookingUp
use Rattle.directory.specs.Showing as Showing
use Rattle.directory.specs.Listing as Listing
use Rattle.directory.specs.Answers as Answers
use Rattle.directory.specs.Calls as Calls

unfoldable pub computing : Unit {0}
unfolding Below.sum Below.any Below.lowest Below.those Larger.larger Lists.occurrences Lists.same Lists.each Lists.every Graph.names Graph.degree_in Peeling.unremoved Peeling.join_back Peeling.one_left Peeling.first_waiting Peeling.follow Peeling.follow_all Peeling.peel Peeling.removal_list Peeling.left_over Peeling.number_left Waiting.most_from Waiting.most_waiting Assignment.landing Assignment.assigned_below Assignment.rank_entry Assignment.minus_mod Assignment.fresh Assignment.first_unvisited Assignment.visited_sum Assignment.assign_edge Assignment.assign Assignment.values Assignment.landing_vertex Assignment.line Assignment.edge_of_line Sizes.arity_allowed Sizes.part_allowed Sizes.codes_allowed Sizes.header_allowed Codes.start Codes.code Codes.wrong_length Codes.wrong_code Codes.run_missed Codes.repeated Kind.code_sum Kind.vertex Bytes.marked Refusals.first Values.packed Values.spare_zero Values.value_in Values.value_record Values.rank_record Values.table_records Values.ranks_at Values.table_size Values.rank_in Values.value_over Values.spare_set Values.rank_wrong Values.total_wrong Values.table_refusals Values.line_in Leads.lead_of File.header_record File.weight_record File.key_record File.file File.weights_at File.values_at File.keys_at File.key_at File.code_at File.file_length File.weight_in File.table_in File.key_length File.stored_code File.lead_in File.header_in Building.weight Building.code_of Building.graph Building.line_of Building.key Building.file_of Building.lent_refusals Building.graph_refusals Building.build_refusals Building.build Building.buffer_after Opening.header_refusals Opening.wrong_mark Opening.key_unmarked Opening.mark_refusals Opening.filling_set Opening.key_wrong Opening.astray Opening.key_refusals Opening.record_refusals Opening.open_refusals Opening.header Opening.opening LookingUp.lookup_refusals LookingUp.holds_code LookingUp.found LookingUp.lookup Showing.key_part Showing.shown_part Showing.shown Listing.digit Listing.digits Listing.decimal Listing.hex Listing.listed_line Listing.refused_line Listing.listing Answers.group_of Answers.meaning_of Calls.length_of Calls.build_of Calls.buffer_after_of Calls.build_numbers_of Calls.header_of Calls.open_of Calls.lookup_of Calls.open_numbers_by Calls.header_numbers_of Calls.open_numbers_of Calls.lookup_numbers_of Calls.show_part_of Calls.show_of Calls.listing_of
computing = tt
