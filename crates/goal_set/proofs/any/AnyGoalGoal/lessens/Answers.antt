use Rattle.goal_set.proofs.any.AnyGoalGoal.lessens.Goals as goal

pub returns-in-Evacuation : goal.returns-in-Evacuation
returns-in-Evacuation c = rw c.in-Evacuation.is c.lessens.ensures

pub returns-in-RackAware : goal.returns-in-RackAware
returns-in-RackAware c = rw c.in-RackAware.is c.lessens-in-RackAware.ensures

pub returns-in-MinTopicLeadersPerBroker : goal.returns-in-MinTopicLeadersPerBroker
returns-in-MinTopicLeadersPerBroker c = rw c.in-MinTopicLeadersPerBroker.is c.lessens-in-MinTopicLeadersPerBroker.ensures

pub returns-in-Demotion : goal.returns-in-Demotion
returns-in-Demotion c = rw c.in-Demotion.is c.lessens-in-Demotion.ensures
